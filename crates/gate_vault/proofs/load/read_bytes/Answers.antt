use Rattle.std.proofs.Common.{◌≡◌, ℕ, ◌+◌, ◌-◌, ◌++◌, length, take, min, ap, subst, arith, rules, length-append}
use Rattle.std.proofs.lemmas.Grind.{common_steps}
use Rattle.std.proofs.lemmas.List.{length-take}
use Rattle.spec_base.specs.Disk.{GivesPart}
use Rattle.gate_vault.proofs.Again.{quiet_then}
use Rattle.gate_vault.proofs.ReadLemmas.{read_step, seen_part, sound_then}
use Rattle.gate_vault.proofs.load.read_bytes.Goals as goal

pub loop-piece-preserved : goal.loop-piece-preserved
loop-piece-preserved g c =
    let bytes = c.loop-piece.bytes in
    let piece = c.read_twice.new.into in
    let kept = min c.in_ok-count.count (c.args.len - length bytes) in
    let next : c.extend_from_slice.new.self ≡ bytes ++ take kept piece = grind (arith, common_steps) in
    record {
      few = omega (arith, ap length next, length-append bytes (take kept piece), length-take kept piece);
      bytes = λ file is.
          read_step c.args.at c.args.len c.in_ok-count.count file bytes piece c.extend_from_slice.new.self (c.loop-piece.invariant.bytes file is)
          (subst (λ (n : ℕ). GivesPart (c.args.at + n) c.in_ok-count.count piece file) c.len-in-loop-piece.ensures (seen_part _ _ file _ c.in_ok-count.ensures.given c.loop-piece.invariant.seen is))
          next;
      seen = search rules;
      none_new = λ f left. c.loop-piece.invariant.none_new f (c.in_ok-count.ensures.none_new f left);
      time = quiet_then _ _ _ _ _ _ _ _ c.loop-piece.invariant.time c.loop-piece.invariant.none_new c.in_ok-count.ensures.time;
      faults = search rules;
      sound = sound_then _ _ _ _ _ _ c.loop-piece.invariant.sound c.in_ok-count.ensures.sound;
    }
