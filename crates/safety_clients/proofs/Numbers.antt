-- A client's covered numbers compare as their positions do, also from home to home, and none is left out.
use Rattle.std.proofs.Common.{◌≡◌, ◌∙◌, ℕ, zero, suc, ◌+◌, ◌-◌, ◌<◌, ◌≤◌, ◌==◌, nat_lt, cond, List, ◌++◌, length, get_or, Some, Contains, refl, sym, ap, subst, inl, inr, arith}
use Rattle.std.specs.List.{slice_get}
use Rattle.std.specs.Ordering.{nat_cmp}
use Rattle.std.specs.declared.cmp.Ordering.TheVariants.{Less, Equal, Greater}
use Rattle.std.proofs.lemmas.Bool.{cases_Bool, cases_lt, cond-true, cond-false, eq-eqb, eqb-true, lt-ltb, le-ltb}
use Rattle.std.proofs.lemmas.List.FromFn.{length-range_with_len}
use Rattle.std.proofs.lemmas.Option.{same_Some, slice_get_within, slice_get-get_or}
use Rattle.fix_ante.specs.declared.spots.Owner.{Owner}
use Rattle.fix_ante.proofs.Entries.{slice_get_append_left}
use Rattle.cut_core.specs.Agreements.{Agreement}
use Rattle.cut_core.specs.Consistency.{IsContinuedBy}
use Rattle.cut_core.specs.Map.{rest_of, granted_layout, located, mapped, covered_locals}
use Rattle.cut_core.proofs.Finding.{dense_found}
use Rattle.majority.proofs.Schedules.{Contains_slice_get}
use Rattle.msg_wire.specs.Valid.{IsValidConfig}
use Rattle.net_model.specs.Pasts.{Past}
use Rattle.runs.specs.Names.{Config, Record}
use Rattle.runs.specs.Names.nodes
use Rattle.runs.specs.Names.sides
use Rattle.runs.specs.Names.records
use Rattle.runs.specs.Runs.{IsPastOf}
use Rattle.runs.specs.Known.{agreed_after, known_at}
use Rattle.runs.specs.Marks.{numbers_of_client}
use Rattle.runs.specs.Homes.{Home, homes_at, EndsWhereNextBegins}
use Rattle.safety_frame.specs.AgreedList.{agreed_list}
use Rattle.safety_frame.specs.EveryRun.{OfEveryRun}
use Rattle.safety_frame.proofs.Known.{known_folds_hold}
use Rattle.safety_frame.proofs.Lists.{begins_on}
use Rattle.safety_logs.specs.Counting.{held_log}
use Rattle.safety_clients.specs.Numbers.{StandsAt, NumbersAreInOrder}
use Rattle.safety_clients.specs.Records.{RunFrom}
use Rattle.safety_logs.proofs.AgreedLists.{agreed_begins}
use Rattle.safety_clients.proofs.KnownEnds.{agreed_known, end_is}
use Rattle.safety_clients.proofs.Chains.{EachLater, each_later, left_later}
use Rattle.safety_clients.proofs.Counting.{AreOrderly, are_counted}
use Rattle.safety_clients.proofs.Ends.{ends_next, BeginsPast, left_past}
use Rattle.safety_clients.proofs.Fronts.{gone_in, ordered, ended, continues}
use Rattle.safety_clients.proofs.Homes.{BeginsIn}
use Rattle.safety_clients.proofs.Numbered.{rank, has_number, number_is, rank_rises, range_has, record_in_front, record_below}
use Rattle.safety_clients.proofs.Placed.{Compared}
use Rattle.safety_clients.proofs.Placed as placed
use Rattle.safety_clients.proofs.Chains.{member_at}
use Rattle.safety_clients.proofs.Homes.{same_first}
use Rattle.safety_clients.proofs.Records.{held_are_of_a_home}

covered_mapped : (a : Agreement) (p : ℕ) → p < length a.covered → mapped a p ≡ located a p
covered_mapped a p within = slice_get_append_left a.covered (rest_of a ++ granted_layout a.granted) p within

-- a covered position keeps its owner
covered_on : (before after : Agreement) → IsContinuedBy before after → (p : ℕ) (o : Owner) → p < length before.covered → located before p ≡ Some o
    → located after p ≡ Some o
covered_on before after on p o within at =
    let still = on.covered_agree p within in
    sym (covered_mapped after p still.0) ∙ (still.1 ∙ (covered_mapped before p within ∙ at))

module _ (cfg : Config) (valid : IsValidConfig cfg) (past : Past) (run : IsPastOf cfg past) (client : ℕ) where
  abbrev homes : List Home
  homes = homes_at cfg client past

  abbrev agreed : Agreement
  agreed = agreed_after cfg (agreed_list cfg past)

  abbrev held : ℕ → List Record
  held shard = held_log cfg shard past

  -- a covered record of the client at a home
  abbrev AtHome : ℕ → ℕ → ℕ → ℕ → ℕ → List ℕ → Type 0
  AtHome = placed.AtHome cfg valid past run client

  below : (shard first position local number : ℕ) (body : List ℕ) → AtHome shard first position local number body → local < covered_locals agreed shard
  below = placed.below cfg valid past run client

  counts : (shard first position local number : ℕ) (body : List ℕ) → AtHome shard first position local number body
      → number ≡ first + rank client (held shard) local
  counts = placed.counts cfg valid past run client

  -- from home to home: covered numbers are below the next home's first one
  abbrev StaysBelow : Home → Home → Type 0
  StaysBelow home later =
      ((number local : ℕ) (body : List ℕ) → slice_get (held home.shard) local ≡ Some (records.Data client number body)
      → local < covered_locals agreed home.shard → number < later.first)
      × (home.first ≤ later.first)

  -- the end of a home that is left, by the agreed list
  end_agreed : (home later : Home) (ends : EndsWhereNextBegins cfg client past home later) → ends.end ≡ covered_locals agreed home.shard
  end_agreed home later ends =
      let node = nodes.Client client in
      let all = agreed_known cfg valid past run in
      let on = continues cfg valid past run (known_at cfg node past) (agreed_list cfg past) (agreed_begins cfg valid past run node) all in
      end_is cfg valid past run (agreed_list cfg past) all home.shard ends.end (on.gone_stay home.shard ends.end ends.gone)

  home_runs : (home : Home) (number local : ℕ) (body : List ℕ) → Contains homes home
      → slice_get (held home.shard) local ≡ Some (records.Data client number body)
      → RunFrom home.first (numbers_of_client client (held home.shard))
  home_runs home number local body there at = elim (held_are_of_a_home cfg past valid run client home.shard).of_home [
    | inl none ↦ absurd (has_number client number body (held home.shard) local at none)
    | inr r ↦
        subst (λ f. RunFrom f (numbers_of_client client (held home.shard)))
        (same_first cfg valid past run client (record { shard = home.shard; first = r.0 }) home r.1 there refl) r.2
  ]

  next_below : (i : ℕ) (home later : Home) → slice_get homes i ≡ Some home → slice_get homes (suc i) ≡ Some later → StaysBelow home later
  next_below i home later here there =
      let ends = ends_next cfg valid past run client i home later here there in
      let end = end_agreed home later ends in (
        λ number local body at covered.
            let log = held home.shard in
            let is = number_is client home.first number body log local (home_runs home number local body (Contains_slice_get homes i home here) at) at in
            let rises = rank_rises client number body log local ends.end at (omega (arith, covered, end)) in
            let all = ap length (ends.numbers) ∙ length-range_with_len home.first (later.first - home.first) in
            omega (arith, is, rises, all, ends.rises),
        ends.rises,
      )

  all_below : EachLater StaysBelow homes
  all_below =
      each_later StaysBelow homes
      (λ x y z first second. (λ number local body at covered. omega (arith, first.0 number local body at covered, second.1), omega (arith, first.1, second.1)))
      next_below

  -- and covered positions are below those of later homes
  position_below : (i j : ℕ) (shard first position local number : ℕ) (body : List ℕ) (other_shard other_first place later other : ℕ) (text : List ℕ)
      → AtHome shard first position local number body
      → AtHome other_shard other_first place later other text → i < j
      → slice_get homes i ≡ Some (record { shard = shard; first = first })
      → slice_get homes j ≡ Some (record { shard = other_shard; first = other_first }) → position < place
  position_below i j shard first position local number body other_shard other_first place later other text x y less here there =
      let node = nodes.Client client in
      let known = known_at cfg node past in
      let list = agreed_list cfg past in
      let all = agreed_known cfg valid past run in
      let left =
      left_later (gone_in cfg node past) (BeginsIn cfg valid (BeginsPast cfg valid) past client) (ordered cfg valid past run node) homes
      (left_past cfg valid past run client) i j (record { shard = shard; first = first })
      (record { shard = other_shard; first = other_first }) less here there in
      let front = left.at.0 in
      let before = agreed_after cfg front in
      let begins = begins_on front known list left.at.1 (agreed_begins cfg valid past run node) in
      let on = continues cfg valid past run front list begins all in
      let gone = ended cfg valid past run front (node, left.at.1) shard left.left in
      let end = end_is cfg valid past run list all shard (covered_locals before shard) (on.gone_stay shard (covered_locals before shard) gone) in
      let dense = ((known_folds_hold cfg past valid run).consistent front (node, left.at.1)).sound.dense shard in
      let found = dense_found before.covered shard local dense (omega (arith, end, below shard first position local number body x)) in
      let within = slice_get_within before.covered found.0 _ found.1 in
      let stands = covered_on before agreed on found.0 (record { shard = shard; local = local }) within found.1 in
      let same = placed.placed_once cfg valid past run client shard first local position found.0 x.covered stands in
      let later_owner : mapped agreed place ≡ Some (record { shard = other_shard; local = later }) =
      covered_mapped agreed place (slice_get_within agreed.covered place _ y.covered) ∙ y.covered in
      let above = on.later_is_above other_shard later place (left.begins later (other, text, y.at)) later_owner in
      omega (arith, within, same, above)

  across : (i j : ℕ) (shard first position local number : ℕ) (body : List ℕ) (other_shard other_first place later other : ℕ) (text : List ℕ)
      → AtHome shard first position local number body
      → AtHome other_shard other_first place later other text → i < j
      → slice_get homes i ≡ Some (record { shard = shard; first = first })
      → slice_get homes j ≡ Some (record { shard = other_shard; first = other_first }) → (number < other) × (position < place)
  across i j shard first position local number body other_shard other_first place later other text x y less here there =
      let stays = all_below i j (record { shard = shard; first = first }) (record { shard = other_shard; first = other_first }) less here there in (
        omega (
          arith,
          stays.0 number local body x.at (below shard first position local number body x),
          counts other_shard other_first place later other text y,
        ),
        position_below i j shard first position local number body other_shard other_first place later other text x y less here there,
      )

  compared : (shard first position local number : ℕ) (body : List ℕ) (other_shard other_first place later other : ℕ) (text : List ℕ)
      → AtHome shard first position local number body
      → AtHome other_shard other_first place later other text → Compared number other position place
  compared shard first position local number body other_shard other_first place later other text x y =
      let home : Home = record { shard = shard; first = first } in
      let other_home : Home = record { shard = other_shard; first = other_first } in
      let one = member_at homes home x.home in
      let two = member_at homes other_home y.home in
      elim (cases_lt one.0 two.0) [
        | inl less ↦ inl (across one.0 two.0 shard first position local number body other_shard other_first place later other text x y less one.1 two.1)
        | inr not_less ↦ elim (cases_lt two.0 one.0) [
          | inl more ↦
              inr (inl (across two.0 one.0 other_shard other_first place later other text shard first position local number body y x more two.1 one.1))
          | inr not_more ↦
              let at : two.0 ≡ one.0 = omega (arith, not_less, not_more) in
              let same : other_home ≡ home = same_Some other_home home (sym two.1 ∙ (ap (slice_get homes) at ∙ one.1)) in
              placed.in_home cfg valid past run client shard first position local number body place later other text x
              (subst (λ (h : Home). AtHome h.shard h.first place later other text) same y)
        ]
      ]

  pub compare : (position number : ℕ) (body : List ℕ) (place other : ℕ) (text : List ℕ) → StandsAt cfg past position (records.Data client number body)
      → StandsAt cfg past place (records.Data client other text)
      → Compared number other position place
  compare position number body place other text x y =
      let here = placed.at_home cfg valid past run client position number body x in
      let there = placed.at_home cfg valid past run client place other text y in
      compared x.owner.shard here.0 position x.owner.local number body y.owner.shard there.0 place y.owner.local other text here.1 there.1

  -- ---- none is left out

  abbrev IsCoveredNumber : ℕ → Type 0
  IsCoveredNumber number = (place : ℕ) × (text : List ℕ) × StandsAt cfg past place (records.Data client number text)

  stands_there : (shard local number : ℕ) (body : List ℕ) → slice_get (held shard) local ≡ Some (records.Data client number body)
      → local < covered_locals agreed shard → IsCoveredNumber number
  stands_there shard local number body at covered =
      let found = dense_found agreed.covered shard local ((placed.consistent cfg valid past run client).sound.dense shard) covered in
      (found.0, body, record { owner = record { shard = shard; local = local }; covered = found.1; held = at })

  below_first : (number i : ℕ) (home : Home) → slice_get homes i ≡ Some home → number < home.first → IsCoveredNumber number
  below_first number zero home here less =
      let is = ap (λ (h : Home). h.first) (same_Some _ home here) in
      absurd (omega (arith, is, less))
  below_first number (suc i) home here less =
      let within = slice_get_within homes (suc i) home here in
      let before = get_or homes i home in
      let at = slice_get-get_or homes i home (omega (arith, within)) in
      let ends = ends_next cfg valid past run client i before home at here in
      elim (cases_lt number before.first) [
        | inl earlier ↦ below_first number i before at earlier
        | inr from ↦
            let has = range_has before.first (home.first - before.first) number from (omega (arith, less, ends.rises)) in
            let found =
            record_in_front client number ends.end (held before.shard) (subst (λ l. Contains l number) (sym (ends.numbers)) has) in
            stands_there before.shard found.0 number found.2 found.3 (omega (arith, found.1, end_agreed before home ends))
      ]

  smaller : (position number : ℕ) (body : List ℕ) (less : ℕ) → StandsAt cfg past position (records.Data client number body) → less < number
      → IsCoveredNumber less
  smaller position number body less st is_less =
      let here = placed.at_home cfg valid past run client position number body st in
      let shard = st.owner.shard in
      let first = here.0 in
      let local = st.owner.local in
      elim (cases_lt less first) [
        | inl early ↦
            let one = member_at homes (record { shard = shard; first = first }) here.1.home in
            below_first less one.0 (record { shard = shard; first = first }) one.1 early
        | inr from ↦
            let at_most = counts shard first position local number body here.1 in
            let found = record_below client first less local (held shard) here.1.runs from (omega (arith, is_less, at_most)) in
            stands_there shard found.0 less found.2 found.3 (omega (arith, found.1, below shard first position local number body here.1))
      ]

  one_record : (position : ℕ) (rec other : Record) → StandsAt cfg past position rec → StandsAt cfg past position other → rec ≡ other
  one_record position rec other x y =
      let same : x.owner ≡ y.owner = same_Some x.owner y.owner (sym x.covered ∙ y.covered) in
      same_Some rec other (sym x.held ∙ (ap (λ (o : Owner). slice_get (held o.shard) o.local) same ∙ y.held))

  pub orderly : AreOrderly (StandsAt cfg past) client
  orderly = record {
    rise = λ position number body place other text x y before. elim (compare position number body place other text x y) [
      | inl sooner ↦ sooner.0
      | inr rest ↦ elim rest [
        | inl later ↦ absurd (omega (arith, before, later.1))
        | inr same ↦ absurd (omega (arith, before, same.1))
      ]
    ];
    one = one_record;
    whole = λ position number body less x is_less.
        let found = smaller position number body less x is_less in
        let before : found.0 < position = elim (compare found.0 less found.1 position number body found.2 x) [
          | inl sooner ↦ sooner.1
          | inr rest ↦ elim rest [
            | inl later ↦ absurd (omega (arith, is_less, later.0))
            | inr same ↦ absurd (omega (arith, is_less, same.0))
          ]
        ] in
        (found.0, before, found.1, found.2);
  }

-- ---- the law

cmp_less : (a b : ℕ) → a < b → nat_cmp a b ≡ Less
cmp_less a b less = cond-true (nat_lt a b) Less (cond (a == b) Equal Greater) (lt-ltb a b less)

cmp_more : (a b : ℕ) → b < a → nat_cmp a b ≡ Greater
cmp_more a b more =
    cond-false (nat_lt a b) Less (cond (a == b) Equal Greater) (le-ltb a b (omega (arith, more)))
    ∙ elim (cases_Bool (a == b)) [
      | inl same ↦ absurd (omega (arith, more, eqb-true a b same))
      | inr other ↦ cond-false (a == b) Equal Greater other
    ]

cmp_same : (a b : ℕ) → a ≡ b → nat_cmp a b ≡ Equal
cmp_same a b same =
    cond-false (nat_lt a b) Less (cond (a == b) Equal Greater) (le-ltb a b (omega (arith, same))) ∙ cond-true (a == b) Equal Greater (eq-eqb a b same)

same_order : (number other position place : ℕ) → Compared number other position place → nat_cmp number other ≡ nat_cmp position place
same_order number other position place is = elim is [
  | inl sooner ↦ cmp_less number other sooner.0 ∙ sym (cmp_less position place sooner.1)
  | inr rest ↦ elim rest [
    | inl later ↦ cmp_more number other later.0 ∙ sym (cmp_more position place later.1)
    | inr same ↦ cmp_same number other same.0 ∙ sym (cmp_same position place same.1)
  ]
]

pub numbers_are_in_order : OfEveryRun NumbersAreInOrder
numbers_are_in_order cfg past valid run = record {
  in_order = λ client position number body place other text x y.
      same_order number other position place (compare cfg valid past run client position number body place other text x y);
  whole = λ client recs stand. are_counted (StandsAt cfg past) client (orderly cfg valid past run client) recs stand;
}
