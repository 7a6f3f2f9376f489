-- Of every run: each consumer has applied as far as what was handed to it reaches.
use Rattle.std.proofs.Common.{◌≡◌, ◌∙◌, ℕ, ◌+◌, ◌-◌, ◌<◌, ◌≤◌, ◌==◌, true, List, [], ◌∷◌, length, map, take, drop, Option, Some, None, Contains, refl, sym, ap, subst, inl, inr, arith}
use Rattle.std.specs.Prelude.{is_some, IsSome}
use Rattle.std.specs.List.{range_with_len, list_any}
use Rattle.std.specs.Option.{option_and_then}
use Rattle.std.proofs.lemmas.Bool.{false≢true, cases_Bool, cases_lt, leb-true, or_left, or_right, cond-false}
use Rattle.std.proofs.lemmas.List.{take-take, take-append-drop}
use Rattle.std.proofs.lemmas.Option.{same_Some}
use Rattle.std.proofs.lemmas.List.FromFn.{length-range_with_len, get_or-range_with_len}
use Rattle.app_law.specs.declared.any_app.AnyApp.{AnyApp}
use Rattle.fix_ante.specs.declared.spots.Owner.{Owner}
use Rattle.cut_core.specs.declared.gone.Gone.{Gone}
use Rattle.cut_core.specs.Agreements.{Agreement, count_of, is_gone}
use Rattle.cut_core.specs.Consistency.{IsConsistent}
use Rattle.cut_core.specs.Map.{map_of, mapped, covered_locals, end_among, gone_end}
use Rattle.cut_core.proofs.Finding.{dense_below, count_of_front}
use Rattle.msg_wire.specs.Valid.{IsValidConfig, IsNodeOf}
use Rattle.net_model.specs.Pasts.{Past, SinceRestart}
use Rattle.node_rules.specs.Names.{Record}
use Rattle.node_rules.specs.Nodes.{Node, agreed_by}
use Rattle.spec_delivery.specs.Lanes.{is_past_end}
use Rattle.consumer_node.specs.Sound.{IsOwn}
use Rattle.consumer_node.specs.Speculation.{held_of}
use Rattle.consumer_node.specs.States.{ConsumerState, applied_of}
use Rattle.consumer_node.proofs.Applied.{applied_at, take_covered}
use Rattle.consumer_node.proofs.Owners.{agreement_by, owner_small}
use Rattle.consumer_node.proofs.Positions.{local_at}
use Rattle.runs.specs.Names.{NodeId, Config}
use Rattle.runs.specs.Names.nodes
use Rattle.runs.specs.Runs.{IsPastOf}
use Rattle.runs.specs.Known.{known_at, agreed_at}
use Rattle.runs.specs.Marks.{confirmations, applied_by, applied_log}
use Rattle.runs.specs.Eagerness.{Hands, IsHanded, IsReached, AppliesAll}
use Rattle.safety_frame.specs.EveryRun.{OfEveryRun}
use Rattle.safety_frame.proofs.NodeKinds.{after, consumers}
use Rattle.safety_frame.proofs.Known.{known_folds_hold}
use Rattle.safety_frame.proofs.Lists.{begins_itself}
use Rattle.safety_consumers.specs.Eager.{ConsumersApplyAll}
use Rattle.safety_consumers.specs.Handed.{IsSettled}
use Rattle.safety_consumers.proofs.AppliedGreatest.{applied_is_greatest}
use Rattle.safety_consumers.proofs.EachConsumer.{after_each}
use Rattle.safety_consumers.proofs.EagerCounts.{AreCounted, are_counted}
use Rattle.safety_consumers.proofs.EagerOutside.{shows_nothing}
use Rattle.safety_consumers.proofs.HandedRuns.{all_held}
use Rattle.safety_consumers.proofs.HandedStates.{agreed_is, sound}

-- ---- numbers from 0 on

counted_member : (count i : ℕ) → i < count → Contains (range_with_len 0 count) i
counted_member count i below =
    (i, omega (arith, below, length-range_with_len 0 count), get_or-range_with_len 0 count i i below ∙ omega arith)

member_counted : (count i : ℕ) → Contains (range_with_len 0 count) i → i < count
member_counted count i c =
    let below : c.0 < count = omega (arith, c.1, length-range_with_len 0 count) in
    omega (arith, below, get_or-range_with_len 0 count c.0 i below, c.2)

-- ---- the owner of a position that isn't confirmed

fewer_before : (os : List Owner) (shard p q : ℕ) → p ≤ q → count_of shard (take p os) ≤ count_of shard (take q os)
fewer_before os shard p q before =
    let front = take p (take q os) in
    let all = take-append-drop p (take q os) in
    omega (
      arith,
      ap (count_of shard) (take-take p q os before),
      count_of_front shard front (drop p (take q os)),
      ap (count_of shard) all,
    )

among_gone : (gs : List Gone) (shard end : ℕ) → end_among gs shard ≡ Some end → list_any (λ (g : Gone). g.shard == shard) gs ≡ true
among_gone [] shard end e = absurd (cc)
among_gone (g ∷ gs) shard end e = elim (cases_Bool (g.shard == shard)) [
  | inl same ↦ or_left _ _ same
  | inr other ↦ or_right _ _ (among_gone gs shard end (sym (cond-false _ _ _ other) ∙ e))
]

module _ (a : Agreement) (is : IsConsistent a) (o : Owner) (position : ℕ) (owns : mapped a position ≡ Some o) where
  -- it is before its shard's end
  past_none : (end : Option ℕ) → gone_end a o.shard ≡ end → is_past_end end o.local ≡ true → ⊥
  past_none None e past = absurd (cc)
  past_none (Some end) e past =
      let gone : is_gone a o.shard ≡ true = among_gone a.gone o.shard end e in
      let ends : covered_locals a o.shard ≡ end = same_Some _ _ (sym (is.gone_have_ended o.shard gone) ∙ e) in
      omega (arith, ends, is.gone_own_covered o.shard gone, dense_below (map_of a) o.shard o.local position (is.dense o.shard) owns, leb-true end o.local past)

  -- and not below the floor; so where it is settled it is held
  settled_held : {A : Type 0} (s : ConsumerState A) → IsOwn a s → o.shard < 6 → s.confirmed ≤ position → IsSettled a s o → IsSome (held_of s.lanes o)
  settled_held s own small after (inl low) =
      absurd (omega (
        arith,
        low,
        own.floors o.shard small,
        ap (count_of o.shard) (take_covered a s.confirmed own.confirmed),
        fewer_before (map_of a) o.shard s.confirmed position after,
        local_at (map_of a) position o (is.dense o.shard) owns,
      ))
  settled_held s own small after (inr (inl past)) = absurd (past_none (gone_end a o.shard) refl past)
  settled_held s own small after (inr (inr held)) = held

-- ---- a consumer of the cluster

module _ (cfg : Config) (valid : IsValidConfig cfg) (number : ℕ) where
  abbrev node : NodeId
  node = nodes.Consumer number

  module _ (here : number < cfg.consumers) (past : Past) (run : IsPastOf cfg past) where
    abbrev a : Agreement
    a = agreed_at cfg node past

    abbrev n : Node (ConsumerState AnyApp)
    n = after consumers cfg node past

    abbrev s : ConsumerState AnyApp
    s = n.own

    counted : AreCounted cfg past number
    counted = are_counted cfg past valid run number

    own : IsOwn a s
    own = subst (λ (x : Agreement). IsOwn x s) (agreed_is cfg valid number here past run) (sound cfg valid number here past run).own

    is : IsConsistent a
    is = (known_folds_hold cfg past valid run).consistent (known_at cfg node past) (node, begins_itself (known_at cfg node past))

    -- each position below is confirmed or handed
    reached : IsReached cfg number past (applied_of s)
    reached position below = elim (cases_lt position s.confirmed) [
      | inl confirmed ↦ inl (subst (λ l. Contains l position) (sym counted.confirmed) (counted_member s.confirmed position confirmed))
      | inr later ↦
          let i : ℕ = position - s.confirmed in
          let inside : i < length s.pending = omega (arith, below, later) in
          let place : s.confirmed + i ≡ position = omega (arith, later) in
          let at = applied_at a s i inside (own.applied i inside) in
          let held : IsSome (held_of s.lanes at.owner) = ap is_some at.held in
          inr (
            at.owner,
            subst (λ (p : ℕ). mapped a p ≡ Some at.owner) place at.position,
            (all_held cfg valid number here at.owner past run).handed held,
          )
    ]

    -- the next one isn't
    next_handed : IsHanded cfg number past (applied_of s) → ⊥
    next_handed handed =
        let o : Owner = handed.0 in
        let base = sound cfg valid number here past run in
        let small : o.shard < 6 =
        owner_small (agreed_by n.base) (applied_of s) o (agreement_by n.base base.base)
        (subst (λ (x : Agreement). mapped x (applied_of s) ≡ Some o) (sym (agreed_is cfg valid number here past run)) handed.1) in
        let settled = (all_held cfg valid number here o past run).kept handed.2 in
        let held = settled_held a is o (applied_of s) handed.1 s own small (omega arith) settled in
        let none : held_of s.lanes o ≡ None =
        ap (option_and_then (held_of s.lanes)) (sym handed.1) ∙ applied_is_greatest cfg past valid run number here in
        false≢true (sym (ap is_some none) ∙ held)

    most : (end : ℕ) → IsReached cfg number past end → end ≤ applied_of s
    most end reaches = elim (cases_lt (applied_of s) end) [
      | inl beyond ↦
          absurd (elim (reaches (applied_of s) beyond) [
            | inl confirmed ↦
                let below = member_counted s.confirmed (applied_of s) (subst (λ l. Contains l (applied_of s)) counted.confirmed confirmed) in
                omega (arith, below)
            | inr handed ↦ next_handed handed
          ])
      | inr within ↦ within
    ]

    inside_applies : AppliesAll cfg number past
    inside_applies = record {
      holds = subst (IsReached cfg number past) (sym counted.applied) reached;
      most = λ end reaches. omega (arith, counted.applied, most end reaches);
    }

  -- ---- one that isn't the cluster's

  module _ (out : cfg.consumers ≤ number) where
    strangers_none : IsNodeOf cfg node → ⊥
    strangers_none here = omega (arith, here, out)

    never_handed : (o : Owner) (past : Past) → IsPastOf cfg past → SinceRestart node (Hands cfg number o) past → ⊥
    never_handed o [] run since = since
    never_handed o (e ∷ past) run since = elim (since.1) [
      | inl hands ↦ strangers_none (subst (IsNodeOf cfg) hands.here run.0.within)
      | inr before ↦ never_handed o past run.1 before
    ]

    outside_applies : (past : Past) → IsPastOf cfg past → AppliesAll cfg number past
    outside_applies past run =
        let nothing = shows_nothing cfg node strangers_none past run in
        let none : length (applied_log number past) ≡ 0 = ap (λ ms. length (applied_by ms)) nothing in
        record {
          holds = λ position below. absurd (omega (arith, below, none));
          most = λ end reaches. elim (cases_lt 0 end) [
            | inl some ↦
                absurd (elim (reaches 0 some) [
                  | inl confirmed ↦
                      let there : Contains [] 0 = subst (λ ms. Contains (map (λ (c : ℕ × Record). c.0) (confirmations ms)) 0) nothing confirmed in
                      omega (arith, there.1)
                  | inr handed ↦ never_handed handed.0 past run handed.2
                ])
            | inr none_beyond ↦ omega (arith, none_beyond)
          ];
        }

  applies : (past : Past) → IsPastOf cfg past → AppliesAll cfg number past
  applies = elim (cases_lt number cfg.consumers) [
    | inl here ↦ inside_applies here
    | inr out ↦ outside_applies out
  ]

pub consumers_apply_all : OfEveryRun ConsumersApplyAll
consumers_apply_all cfg past valid run number = after_each cfg (AppliesAll cfg number) (applies cfg valid number) past run
