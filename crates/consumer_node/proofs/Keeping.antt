-- What a consumer keeps, as records are applied, taken back and confirmed.
use Rattle.std.proofs.Common.{◌≡◌, ℕ, zero, suc, ◌+◌, ◌-◌, ◌<◌, ◌≤◌, ◌^◌, min, List, [], ◌∷◌, ◌++◌, length, take, refl, sym, ap, subst, ◌∙◌, arith, length-append}
use Rattle.std.proofs.lemmas.List.{length-take, take_min}
use Rattle.consumer_node.specs.inside.Names.{fold_of, below, from_on, LaneState, ConsumerState}
use Rattle.app_law.proofs.Folds.{fold_of_append}
use Rattle.undo_points.specs.declared.points.UndoPoint.{UndoPoint}
use Rattle.undo_points.specs.Points.{Points, point_position, pushed, points_below, points_from, taken_back, Gave}
use Rattle.undo_points.proofs.PointLemmas.{Gave_push}
use Rattle.output_gate.specs.declared.kept.KeptOut.{KeptOut}
use Rattle.output_gate.specs.Gates.{Gate, out_position, holding, gate_below, gate_from}
use Rattle.node_rules.specs.Names.{Record}
use Rattle.consumer_node.specs.inside.Kept.{StandFrom, GaveOutputs, IsAppliedAheadFrom, IsAppliedAhead, HasRoom}
use Rattle.consumer_node.proofs.Standing.{stand_push, stand_past, stand_take, below_take, below_next, from_on_next, stand_next}

pub state_made : {A : Type 0} (lanes more : List LaneState) (confirmed counted : ℕ) (base same : A) (pending recs : List Record) → lanes ≡ more
    → confirmed ≡ counted → base ≡ same → pending ≡ recs
    → ◌≡◌ {A = ConsumerState A} (record { lanes = lanes; confirmed = confirmed; base = base; pending = pending }) (record { lanes = more; confirmed = counted; base = same; pending = recs })
state_made lanes more confirmed counted base same pending recs a b c d = rw (a, b, c, d) refl

module _ {A U : Type 0} (next : A → Record → A) (output : A → Record → List ℕ) (restored : U → A → A) where
  -- ---- lists

  -- all undos take the state after the records back to the one before them
  pub back_whole : (s : A) (log : List Record) (points : List (UndoPoint U)) → Gave next restored s log points
      → taken_back restored points (fold_of next s log) ≡ s
  back_whole s [] [] gave = refl
  back_whole s [] (x ∷ points) gave = absurd gave
  back_whole s (r ∷ log) [] gave = absurd gave
  back_whole s (r ∷ log) (x ∷ points) gave = ap (restored x.undo) (back_whole (next s r) log points gave.1) ∙ gave.0

  pub gave_length : (s : A) (log : List Record) (points : List (UndoPoint U)) → Gave next restored s log points → length points ≡ length log
  gave_length s [] [] gave = refl
  gave_length s [] (x ∷ points) gave = absurd gave
  gave_length s (r ∷ log) [] gave = absurd gave
  gave_length s (r ∷ log) (x ∷ points) gave = ap suc (gave_length (next s r) log points gave.1)

  gave_take : (n : ℕ) (s : A) (log : List Record) (points : List (UndoPoint U)) → Gave next restored s log points
      → Gave next restored s (take n log) (take n points)
  gave_take zero s [] [] gave = tt
  gave_take (suc n) s [] [] gave = tt
  gave_take n s [] (x ∷ points) gave = absurd gave
  gave_take n s (r ∷ log) [] gave = absurd gave
  gave_take zero s (r ∷ log) (x ∷ points) gave = tt
  gave_take (suc n) s (r ∷ log) (x ∷ points) gave = (gave.0, gave_take n (next s r) log points gave.1)

  pub outputs_length : (s : A) (log : List Record) (held : List KeptOut) → GaveOutputs next output s log held → length held ≡ length log
  outputs_length s [] [] gave = refl
  outputs_length s [] (x ∷ held) gave = absurd gave
  outputs_length s (r ∷ log) [] gave = absurd gave
  outputs_length s (r ∷ log) (x ∷ held) gave = ap suc (outputs_length (next s r) log held gave.1)

  outputs_take : (n : ℕ) (s : A) (log : List Record) (held : List KeptOut) → GaveOutputs next output s log held
      → GaveOutputs next output s (take n log) (take n held)
  outputs_take zero s [] [] gave = tt
  outputs_take (suc n) s [] [] gave = tt
  outputs_take n s [] (x ∷ held) gave = absurd gave
  outputs_take n s (r ∷ log) [] gave = absurd gave
  outputs_take zero s (r ∷ log) (x ∷ held) gave = tt
  outputs_take (suc n) s (r ∷ log) (x ∷ held) gave = (gave.0, outputs_take n (next s r) log held gave.1)

  outputs_push : (s : A) (log : List Record) (held : List KeptOut) (r : Record) (x : KeptOut) → GaveOutputs next output s log held
      → x.out ≡ output (fold_of next s log) r → length x.out ≤ 64 → GaveOutputs next output s (log ++ r ∷ []) (held ++ x ∷ [])
  outputs_push s [] [] r x gave is short = ((is, short), tt)
  outputs_push s [] (y ∷ held) r x gave is short = absurd gave
  outputs_push s (q ∷ log) [] r x gave is short = absurd gave
  outputs_push s (q ∷ log) (y ∷ held) r x gave is short = (gave.0, outputs_push (next s q) log held r x gave.1 is short)

  -- ---- what is kept

  abbrev From : A → Points U → Gate → A → List Record → ℕ → Type 0
  From base undos gate app pending confirmed = IsAppliedAheadFrom next output restored base undos gate app pending confirmed

  abbrev pub Kept : Points U → Gate → A → List Record → ℕ → Type 0
  Kept undos gate app pending confirmed = IsAppliedAhead next output restored undos gate app pending confirmed

  abbrev pub base_of : Points U → A → A
  base_of undos app = taken_back restored undos.held app

  -- the state after the confirmed records is the application's, taken back
  kept : (base : A) (undos : Points U) (gate : Gate) (app : A) (pending : List Record) (confirmed : ℕ) → From base undos gate app pending confirmed
      → Kept undos gate app pending confirmed × (base_of undos app ≡ base)
  kept base undos gate app pending confirmed k =
      let same : base_of undos app ≡ base = ap (taken_back restored undos.held) k.state ∙ back_whole base pending undos.held k.gave in
      (subst (λ (b : A). From b undos gate app pending confirmed) (sym same) k, same)

  pub kept_room : (base : A) (undos : Points U) (gate : Gate) (app : A) (pending : List Record) (confirmed : ℕ) → From base undos gate app pending confirmed
      → length pending < 3840 → HasRoom undos gate (confirmed + length pending)
  kept_room base undos gate app pending confirmed k room =
      let undos_same = gave_length base pending undos.held k.gave in
      let outs_same = outputs_length base pending gate.held k.outputs in
      record {
        undo = omega (arith, k.undo_room);
        undo_past = stand_past point_position confirmed (confirmed + length pending) undos.held k.undos_stand (omega arith);
        gives = omega (arith, k.output_room);
        gives_past = stand_past out_position confirmed (confirmed + length pending) gate.held k.outputs_stand (omega arith);
      }

  -- one more record is applied
  pub has_applied : (undos more : Points U) (gate wider : Gate) (app after : A) (pending longer : List Record) (confirmed position : ℕ) (rec : Record) (undo : U) (out : List ℕ)
      → Kept undos gate app pending confirmed → length pending < 3840 → position ≡ confirmed + length pending
      → after ≡ next app rec → restored undo after ≡ app → out ≡ output app rec → length out ≤ 64
      → more ≡ pushed undos position undo → wider ≡ holding gate position out → longer ≡ pending ++ rec ∷ []
      → Kept more wider after longer confirmed × (base_of more after ≡ base_of undos app)
  has_applied undos more gate wider app after pending longer confirmed position rec undo out k room at after_is undoes is short more_is wider_is longer_is =
      let base : A = base_of undos app in
      let x : UndoPoint U = record { position = position; undo = undo } in
      let y : KeptOut = record { position = position; out = out } in
      let undos_same = gave_length base pending undos.held k.gave in
      let outs_same = outputs_length base pending gate.held k.outputs in
      let undone : restored undo (next app rec) ≡ app = rw after_is at undoes in
      let back : restored undo (next (fold_of next base pending) rec) ≡ fold_of next base pending = subst (λ (s : A). restored undo (next s rec) ≡ s) k.state undone in
      let gives : out ≡ output (fold_of next base pending) rec = is ∙ ap (λ (s : A). output s rec) k.state in
      let made : From base (pushed undos position undo) (holding gate position out) (next app rec) (pending ++ rec ∷ []) confirmed = record {
        state = ap (λ s. next s rec) k.state ∙ sym (fold_of_append next base pending (rec ∷ []));
        gave = Gave_push next restored base pending undos.held rec x k.gave back;
        outputs = outputs_push base pending gate.held rec y k.outputs gives short;
        undos_stand = stand_push point_position confirmed undos.held x k.undos_stand (omega arith);
        outputs_stand = stand_push out_position confirmed gate.held y k.outputs_stand (omega arith);
        undo_room = k.undo_room;
        output_room = k.output_room;
        few = omega (arith, length-append pending (rec ∷ []));
        most = k.most;
      } in
      rw (more_is, wider_is, after_is, longer_is) (kept _ _ _ _ _ _ made)

  -- what is applied from a position on is taken back
  pub has_cut : (undos fewer : Points U) (gate narrower : Gate) (app after : A) (pending shorter : List Record) (confirmed first stay : ℕ)
      → Kept undos gate app pending confirmed → stay ≡ first - confirmed
      → after ≡ fold_of next (base_of undos app) (take (length (below point_position first undos.held)) pending)
      → fewer ≡ points_below undos first → narrower ≡ gate_below gate first → shorter ≡ take stay pending
      → Kept fewer narrower after shorter confirmed × (base_of fewer after ≡ base_of undos app)
  has_cut undos fewer gate narrower app after pending shorter confirmed first stay k stays after_is fewer_is narrower_is shorter_is =
      let base : A = base_of undos app in
      let n : ℕ = first - confirmed in
      let undos_are : below point_position first undos.held ≡ take n undos.held = below_take point_position confirmed first undos.held k.undos_stand in
      let outs_are : below out_position first gate.held ≡ take n gate.held = below_take out_position confirmed first gate.held k.outputs_stand in
      let count : length (below point_position first undos.held) ≡ min n (length pending) =
      ap length undos_are ∙ (length-take n undos.held ∙ ap (min n) (gave_length base pending undos.held k.gave)) in
      let made : From base (points_below undos first) (gate_below gate first) after (take n pending) confirmed = record {
        state = after_is ∙ ap (fold_of next base) (ap (λ (m : ℕ). take m pending) count ∙ take_min n pending);
        gave = rw undos_are (gave_take n base pending undos.held k.gave);
        outputs = rw outs_are (outputs_take n base pending gate.held k.outputs);
        undos_stand = rw undos_are (stand_take point_position confirmed n undos.held k.undos_stand);
        outputs_stand = rw outs_are (stand_take out_position confirmed n gate.held k.outputs_stand);
        undo_room = k.undo_room;
        output_room = k.output_room;
        few = omega (arith, length-take n pending, k.few);
        most = k.most;
      } in
      rw (fewer_is, narrower_is, shorter_is, stays) (kept _ _ _ _ _ _ made)

  -- the oldest of the pending records is confirmed
  gave_next : (at : ℕ) (s : A) (rec : Record) (log : List Record) (points : List (UndoPoint U)) → StandFrom point_position at points
      → Gave next restored s (rec ∷ log) points
      → Gave next restored (next s rec) log (from_on point_position (at + 1) points)
  gave_next at s rec log [] stand gave = absurd gave
  gave_next at s rec log (x ∷ points) stand gave = rw (from_on_next point_position at x points stand) gave.1

  outputs_next : (at : ℕ) (s : A) (rec : Record) (log : List Record) (held : List KeptOut) → StandFrom out_position at held
      → GaveOutputs next output s (rec ∷ log) held
      → GaveOutputs next output (next s rec) log (from_on out_position (at + 1) held)
  outputs_next at s rec log [] stand gave = absurd gave
  outputs_next at s rec log (x ∷ held) stand gave = rw (from_on_next out_position at x held stand) gave.1

  pub has_confirmed : (undos fewer : Points U) (gate narrower : Gate) (app : A) (rec : Record) (pending rest : List Record) (confirmed more : ℕ)
      → Kept undos gate app pending confirmed → confirmed < 2 ^ 48 → more ≡ confirmed + 1 → pending ≡ rec ∷ rest
      → fewer ≡ points_from undos more → narrower ≡ gate_from gate more
      → Kept fewer narrower app rest more × (base_of fewer app ≡ next (base_of undos app) rec)
  has_confirmed undos fewer gate narrower app rec pending rest confirmed more whole room more_is pending_is fewer_is narrower_is =
      let base : A = base_of undos app in
      let k : From base undos gate app (rec ∷ rest) confirmed = rw pending_is at whole in
      let made : From (next base rec) (points_from undos (confirmed + 1)) (gate_from gate (confirmed + 1)) app rest (confirmed + 1) = record {
        state = k.state;
        gave = gave_next confirmed base rec rest undos.held k.undos_stand k.gave;
        outputs = outputs_next confirmed base rec rest gate.held k.outputs_stand k.outputs;
        undos_stand = stand_next point_position confirmed undos.held k.undos_stand;
        outputs_stand = stand_next out_position confirmed gate.held k.outputs_stand;
        undo_room = k.undo_room;
        output_room = k.output_room;
        few = (let few : length (rec ∷ rest) ≤ 3840 = k.few in omega arith);
        most = omega arith;
      } in
      rw (fewer_is, narrower_is, more_is) (kept _ _ _ _ _ _ made)

  -- its output is the only one below the next position
  pub record IsReleased (s : A) (rec : Record) (released : List KeptOut) : Type 0 where
    pub kept : KeptOut
    pub one : released ≡ kept ∷ []
    pub gives : kept.out ≡ output s rec
    pub short : length kept.out ≤ 64

  released_next : (at : ℕ) (s : A) (rec : Record) (log : List Record) (held : List KeptOut) → StandFrom out_position at held
      → GaveOutputs next output s (rec ∷ log) held
      → IsReleased s rec (below out_position (at + 1) held)
  released_next at s rec log [] stand gave = absurd gave
  released_next at s rec log (x ∷ held) stand gave = record { kept = x; one = below_next out_position at x held stand; gives = gave.0.0; short = gave.0.1 }

  pub has_released : (undos : Points U) (gate : Gate) (app : A) (rec : Record) (pending rest : List Record) (confirmed more : ℕ)
      → Kept undos gate app pending confirmed → more ≡ confirmed + 1 → pending ≡ rec ∷ rest
      → IsReleased (base_of undos app) rec (below out_position more gate.held)
  has_released undos gate app rec pending rest confirmed more whole more_is pending_is =
      let k : Kept undos gate app (rec ∷ rest) confirmed = rw pending_is at whole in
      rw more_is (released_next confirmed (base_of undos app) rec rest gate.held k.outputs_stand k.outputs)
