-- What follows of a base that is one: how many slots it knows, how far the numbers of its windows reach, and which rows may lag.
use Rattle.std.proofs.Common.{◌≡◌, ℕ, ◌+◌, ◌<◌, ◌≤◌, ◌^◌, true, List, [], ◌∷◌, length, Option, Some, None, arith}
use Rattle.std.specs.Prelude.{nat_le, nat_lt, slice_index}
use Rattle.std.specs.List.{AllByRecursion, list_all}
use Rattle.std.proofs.lemmas.Bool.Decides.{nat_tests}
use Rattle.std.proofs.lemmas.Nat.{mul-le}
use Rattle.quota_table.specs.Rows.{is_row}
use Rattle.fix_ante.specs.declared.spots.Spot.{Spot}
use Rattle.fix_ante.specs.Windows.{Window, round_end, rows_of}
use Rattle.lag_fix.specs.declared.wanted.Wanted.{Wanted}
use Rattle.lag_fix.specs.Lags.{lagging_of}
use Rattle.cut_core.specs.declared.effects.Reason.{Reason}
use Rattle.cut_core.specs.Agreements.{Agreement, is_last_round}
use Rattle.cut_core.specs.Reasons.{fault_of}
use Rattle.cut_core.specs.Fold.{with_round, open_granted, after_entry, unless_void, applied, applied_all}
use Rattle.cut_core.proofs.AgreeingLemmas.{slots_applied_all}
use Rattle.node_rules.specs.Names.{Entry}
use Rattle.node_rules.specs.Names.entries
use Rattle.node_rules.specs.Nodes.{Base, agreed_by}
use Rattle.node_rules.specs.Sound.{IsBase}
use Rattle.node_rules.proofs.Limits.{agreed_sound}
use Rattle.node_rules.proofs.Lists.{on_test}

-- ---- what the known entries agree on

pub slots_known : (b : Base) → (agreed_by b).slots ≡ length b.known
slots_known b = let slots : (agreed_by b).slots ≡ 0 + length b.known = slots_applied_all _ b.known in omega (arith, slots)

-- ---- numbers of windows

abbrev MayBeNumbered : ℕ → Option Window → Type 0
MayBeNumbered limit None = Unit {0}
MayBeNumbered limit (Some w) = w.number ≤ limit

-- the current window and the granted one have numbers up to the limit
abbrev AreNumbered : ℕ → Agreement → Type 0
AreNumbered limit a = (a.current.number ≤ limit) × MayBeNumbered limit a.granted

numbered_open : (limit : ℕ) (a : Agreement) (granted : Option Window) → AreNumbered limit a → MayBeNumbered limit granted
    → AreNumbered limit (open_granted a granted)
numbered_open limit a None are next = are
numbered_open limit a (Some w) are next = (next, tt)

numbered_after : (limit : ℕ) (a : Agreement) (entry : Entry) → AreNumbered limit a → a.slots + 1 ≤ limit → AreNumbered limit (after_entry a entry)
numbered_after limit a entries.Nothing are room = are
numbered_after limit a (entries.Cut window round) are room =
    on_test (AreNumbered limit) (is_last_round a) (open_granted (with_round a) a.granted) (with_round a) (λ _. numbered_open limit (with_round a) a.granted are are.1) (λ _. are)
numbered_after limit a (entries.Table after rounds rows) are room = (are.0, room)
numbered_after limit a (entries.Remove window shard) are room = (room, tt)

numbered_unless : (limit : ℕ) (fault : Option Reason) (a after : Agreement) → AreNumbered limit a → AreNumbered limit after
    → AreNumbered limit (unless_void fault a after)
numbered_unless limit None a after before next = next
numbered_unless limit (Some reason) a after before next = before

numbered_all : (limit : ℕ) (a : Agreement) (known : List Entry) → AreNumbered limit a → a.slots + length known ≤ limit → AreNumbered limit (applied_all a known)
numbered_all limit a [] are room = are
numbered_all limit a (entry ∷ known) are room =
    numbered_all limit (applied a entry) known
    (numbered_unless limit (fault_of a entry) a (after_entry a entry) are (numbered_after limit a entry are (omega arith))) (omega arith)

pub number_limit : (b : Base) → IsBase b → (agreed_by b).current.number ≤ 1000000
number_limit b is = (numbered_all 1000000 _ b.known (omega arith, tt) (omega (arith, is.few))).0

-- ---- lagging rows

abbrev pub IsWanted : Wanted → Type 0
IsWanted wanted = (wanted.shard ≤ 5) × (wanted.len ≤ 2 ^ 48)

spot_within : (base : ℕ) (s : Spot) (ss : List Spot) → list_all is_row (rows_of (s ∷ ss)) ≡ true
    → list_all (λ (t : Spot). nat_le t.start base) (s ∷ ss) ≡ true
    → (s.shard < 6) × (s.quota ≤ 64) × (s.start ≤ base) × (list_all is_row (rows_of ss) ≡ true) × (list_all (λ (t : Spot). nat_le t.start base) ss ≡ true)
spot_within base s ss within starts = grind (arith, nat_tests)

wanted_limit : (base round : ℕ) (s : Spot) → base ≤ 393216000000 → round < 1024 → s.quota ≤ 64 → s.start ≤ base → round_end s round ≤ 2 ^ 48
wanted_limit base round s far short most start = omega (arith, mul-le (round + 1) s.quota 1024 64 (omega (arith, short)) most)

valid_lagging : (base round : ℕ) (spots : List Spot) (lengths : List ℕ) → base ≤ 393216000000 → round < 1024
    → list_all is_row (rows_of spots) ≡ true → list_all (λ (t : Spot). nat_le t.start base) spots ≡ true
    → AllByRecursion IsWanted (lagging_of spots round lengths)
valid_lagging base round [] lengths far short within starts = tt
valid_lagging base round (s ∷ ss) lengths far short within starts =
    let here = spot_within base s ss within starts in
    let rest = valid_lagging base round ss lengths far short here.3 here.4 in
    on_test (AllByRecursion IsWanted) (nat_lt (slice_index lengths s.shard) (round_end s round)) (record { shard = s.shard; len = round_end s round } ∷ lagging_of ss round lengths) (lagging_of ss round lengths)
    (λ _. ((omega (arith, here.0), wanted_limit base round s far short here.1 here.2), rest)) (λ _. rest)

pub valid_wanted : (b : Base) (lengths : List ℕ) → IsBase b → AllByRecursion IsWanted (lagging_of (agreed_by b).current.spots (agreed_by b).rounds lengths)
valid_wanted b lengths is =
    let sound = agreed_sound b is in
    valid_lagging (agreed_by b).current.base (agreed_by b).rounds (agreed_by b).current.spots lengths
    (omega (arith, sound.reach, slots_known b, is.few)) (omega (arith, sound.short, sound.window.most)) sound.window.table.within sound.window.starts
