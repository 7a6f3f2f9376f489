-- Two covered records of a client at one home: their numbers compare as their positions do, both as their locals do.
use Rattle.std.proofs.Common.{◌≡◌, ◌⊎◌, ◌∙◌, ℕ, zero, suc, ◌+◌, ◌<◌, ◌==◌, List, [], ◌∷◌, Some, Contains, sym, ap, inl, inr, arith}
use Rattle.std.specs.List.{range_with_len, slice_get}
use Rattle.std.proofs.lemmas.Bool.{cases_Bool, cases_lt, cond-true, cond-false, eq-eqb}
use Rattle.std.proofs.lemmas.Option.{same_Some}
use Rattle.fix_ante.specs.declared.spots.Owner.{Owner}
use Rattle.fix_ante.specs.Locals.{locals_of}
use Rattle.cut_core.specs.Agreements.{Agreement}
use Rattle.cut_core.specs.Consistency.{IsConsistent}
use Rattle.cut_core.specs.Map.{located, covered_locals}
use Rattle.cut_core.proofs.Dense.{range_with_len_head, local_from, index_of_dense}
use Rattle.cut_core.proofs.Finding.{dense_below}
use Rattle.msg_wire.specs.Valid.{IsValidConfig}
use Rattle.net_model.specs.Pasts.{Past}
use Rattle.runs.specs.Names.{Config, Record}
use Rattle.runs.specs.Names.sides
use Rattle.runs.specs.Names.records
use Rattle.runs.specs.Runs.{IsPastOf}
use Rattle.runs.specs.Known.{agreed_after}
use Rattle.runs.specs.Marks.{numbers_of_client}
use Rattle.runs.specs.Homes.{Home, homes_at}
use Rattle.safety_frame.specs.AgreedList.{agreed_list}
use Rattle.safety_frame.proofs.Known.{known_folds_hold}
use Rattle.safety_logs.specs.Counting.{held_log}
use Rattle.safety_clients.specs.Numbers.{StandsAt}
use Rattle.safety_clients.specs.Records.{RunFrom}
use Rattle.safety_clients.proofs.KnownEnds.{agreed_known}
use Rattle.safety_clients.proofs.Numbered.{rank, has_number, number_is, rank_rises}
use Rattle.safety_clients.proofs.Records.{held_are_of_a_home}

-- ---- owners

-- of one shard's owners a later position has a later local
local_rises : (os : List Owner) (shard n count i j local later : ℕ) → locals_of shard os ≡ range_with_len n count
    → slice_get os i ≡ Some (record { shard = shard; local = local })
    → slice_get os j ≡ Some (record { shard = shard; local = later }) → i < j → local < later
local_rises [] shard n count i j local later dense here there less = absurd (cc)
local_rises (o ∷ os) shard n count i zero local later dense here there less = absurd (omega (arith, less))
local_rises (o ∷ os) shard n count zero (suc j) local later dense here there less =
    let same : o.shard ≡ shard = cc in
    let is : o.local ≡ local = cc in
    let head = range_with_len_head n count o.local (locals_of shard os) (sym (cond-true _ _ _ (eq-eqb o.shard shard same)) ∙ dense) in
    let from = local_from os shard later j (n + 1) head.0 head.3 there in
    omega (arith, head.2, is, from)
local_rises (o ∷ os) shard n count (suc i) (suc j) local later dense here there less =
    elim (cases_Bool (o.shard == shard)) [
      | inl same ↦
          let head = range_with_len_head n count o.local (locals_of shard os) (sym (cond-true _ _ _ same) ∙ dense) in
          local_rises os shard (n + 1) head.0 i j local later head.3 here there (omega (arith, less))
      | inr other ↦ local_rises os shard n count i j local later (sym (cond-false _ _ _ other) ∙ dense) here there (omega (arith, less))
    ]

-- ---- two records

-- numbers compare as positions do
abbrev pub Compared : ℕ → ℕ → ℕ → ℕ → Type 0
Compared number other position place =
    ((number < other) × (position < place)) ⊎ (((other < number) × (place < position)) ⊎ ((number ≡ other) × (position ≡ place)))

module _ (cfg : Config) (valid : IsValidConfig cfg) (past : Past) (run : IsPastOf cfg past) (client : ℕ) where
  abbrev pub homes : List Home
  homes = homes_at cfg client past

  abbrev pub agreed : Agreement
  agreed = agreed_after cfg (agreed_list cfg past)

  abbrev pub held : ℕ → List Record
  held shard = held_log cfg shard past

  pub consistent : IsConsistent agreed
  consistent = (known_folds_hold cfg past valid run).consistent (agreed_list cfg past) (agreed_known cfg valid past run)

  -- a covered record of the client at a home
  pub record AtHome (shard first position local number : ℕ) (body : List ℕ) : Type 0 where
    pub covered : located agreed position ≡ Some (record { shard = shard; local = local })
    pub at : slice_get (held shard) local ≡ Some (records.Data client number body)
    pub home : Contains homes (record { shard = shard; first = first })
    pub runs : RunFrom first (numbers_of_client client (held shard))

  pub at_home : (position number : ℕ) (body : List ℕ) → (st : StandsAt cfg past position (records.Data client number body))
      → (first : ℕ) × AtHome st.owner.shard first position st.owner.local number body
  at_home position number body st = elim (held_are_of_a_home cfg past valid run client st.owner.shard).of_home [
    | inl none ↦ absurd (has_number client number body (held st.owner.shard) st.owner.local st.held none)
    | inr home ↦ (home.0, record { covered = st.covered; at = st.held; home = home.1; runs = home.2 })
  ]

  pub below : (shard first position local number : ℕ) (body : List ℕ) → AtHome shard first position local number body → local < covered_locals agreed shard
  below shard first position local number body x = dense_below agreed.covered shard local position (consistent.sound.dense shard) x.covered

  pub counts : (shard first position local number : ℕ) (body : List ℕ) → AtHome shard first position local number body
      → number ≡ first + rank client (held shard) local
  counts shard first position local number body x = number_is client first number body (held shard) local x.runs x.at

  -- at one home
  module _ (shard first : ℕ) where
    pub placed_once : (local position place : ℕ) → located agreed position ≡ Some (record { shard = shard; local = local })
        → located agreed place ≡ Some (record { shard = shard; local = local }) → position ≡ place
    placed_once local position place here there =
        let dense = consistent.sound.dense shard in
        same_Some position place
        (sym (index_of_dense agreed.covered shard local position 0 _ dense here) ∙ index_of_dense agreed.covered shard local place 0 _ dense there)

    sooner : (position local number : ℕ) (body : List ℕ) (place later other : ℕ) (text : List ℕ) → AtHome shard first position local number body
        → AtHome shard first place later other text
        → local < later → (number < other) × (position < place)
    sooner position local number body place later other text x y less =
        let dense = consistent.sound.dense shard in (
          omega (
            arith,
            counts shard first position local number body x,
            counts shard first place later other text y,
            rank_rises client number body (held shard) local later x.at less,
          ),
          elim (cases_lt position place) [
            | inl before ↦ before
            | inr not_before ↦ elim (cases_lt place position) [
              | inl after ↦ absurd (omega (arith, less, local_rises agreed.covered shard 0 _ place position later local dense y.covered x.covered after))
              | inr not_after ↦
                  let same : place ≡ position = omega (arith, not_before, not_after) in
                  let owners : Some (record { shard = shard; local = later }) ≡ Some (record { shard = shard; local = local }) =
                  sym y.covered ∙ (ap (located agreed) same ∙ x.covered) in
                  absurd (omega (arith, less, ap (λ (o : Owner). o.local) (same_Some _ _ owners)))
            ]
          ],
        )

    pub in_home : (position local number : ℕ) (body : List ℕ) (place later other : ℕ) (text : List ℕ) → AtHome shard first position local number body
        → AtHome shard first place later other text → Compared number other position place
    in_home position local number body place later other text x y =
        elim (cases_lt local later) [
          | inl less ↦ inl (sooner position local number body place later other text x y less)
          | inr not_less ↦ elim (cases_lt later local) [
            | inl more ↦ inr (inl (sooner place later other text position local number body y x more))
            | inr not_more ↦
                let same : local ≡ later = omega (arith, not_less, not_more) in
                let numbers : number ≡ other =
                omega (
                  arith,
                  counts shard first position local number body x,
                  counts shard first place later other text y,
                  ap (rank client (held shard)) same,
                ) in
                inr (inr (numbers, placed_once later position place (x.covered ∙ ap (λ l. Some (record { shard = shard; local = l })) same) y.covered))
          ]
        ]
