use Rattle.std.proofs.Common.{◌≡◌, ◌≤◌, ◌+◌, ◌++◌, ◌∷◌, [], ◌∙◌, List, ℕ, Option, Ok, length, sym, ap, subst, arith, rules}
use Rattle.gate_vault.specs.File.{gate_after, AreShort}
use Rattle.gate_vault.specs.inside.Frames.{FrameRead}
use Rattle.gate_vault.proofs.Again.{quiet_then}
use Rattle.gate_vault.proofs.FrameBytes.{areshort_append, gate_after_append}
use Rattle.gate_vault.proofs.FrameReads.{next_read}
use Rattle.gate_vault.proofs.ReadLemmas.{sound_then}
use Rattle.gate_vault.proofs.load.read_entries.Goals as goal

pub loop-gate-preserved : goal.loop-gate-preserved
loop-gate-preserved g c =
    let entries = c.loop-gate.entries in
    let entry = c.in-Some.entry in
    let gate = c.loop-gate.gate in
    let before = c.loop-gate.invariant in
    let few : length entry ≤ 4096 = search rules in
    let grown : c.push.new.self ≡ entries ++ entry ∷ [] = c.in_ok-push.ensures.ok in
    let size : c.len.result ≡ length entry = c.len.ensures in
    let place : gate_after c.push.new.self ≡ gate_after (entries ++ entry ∷ []) = ap gate_after grown in
    record {
      room = omega arith;
      place = omega (arith, before.place, gate_after_append entries entry);
      short = subst AreShort (sym grown) (areshort_append entries entry before.short few);
      read = λ file told begins.
          let frame = subst (λ (o : Option (List ℕ)). FrameRead gate file (Ok o)) c.in-Some.is (c.in_ok-entry.ensures.frame file (before.seen ∙ told)) in
          next_read entries entry file gate (gate + (3 + c.len.result)) (before.read file told begins) frame.1 (omega arith) c.push.new.self grown;
      seen = search rules;
      none_new = λ f left. before.none_new f (c.in_ok-entry.ensures.none_new f left);
      time = quiet_then _ _ _ _ _ _ _ _ before.time before.none_new c.in_ok-entry.ensures.time;
      faults = search rules;
      sound = sound_then _ _ _ _ _ _ before.sound c.in_ok-entry.ensures.sound;
    }
