use Rattle.std.proofs.Common.{rules, ◌≡◌, ◌≤◌, ◌<◌, ◌+◌, length, None, ap, sym, ◌∙◌, lit<}
use Rattle.output_gate.specs.Gates.{out_position, gate_from}
use Rattle.output_gate.proofs.GateLemmas.{from_taken, released_taken, room_taken, from_none, released_none}
use Rattle.output_gate.proofs.gate.OutputGate.release_below.Goals as goal

pub push-requires : goal.push-requires
push-requires c =
    let t = c.in-Some.ensures in
    (lit< tt, (room_taken c.args.position c.in-Some.kept c.loop-kept.self c.take_oldest.new.self c.loop-kept.into t.0 t.1 c.loop-kept.invariant.room).0)

pub loop-kept-preserved : goal.loop-kept-preserved
loop-kept-preserved c =
    let t = c.in-Some.ensures in
    let p = c.args.position in
    let old = c.loop-kept.self in
    let new = c.take_oldest.new.self in
    let into = c.loop-kept.into in
    record {
      gate = sym (from_taken p c.in-Some.kept old new t.0 t.1) ∙ c.loop-kept.invariant.gate;
      released = rw c.push.ensures (released_taken p c.in-Some.kept old new into t.0 t.1 ∙ c.loop-kept.invariant.released);
      room = rw c.push.ensures ((room_taken p c.in-Some.kept old new into t.0 t.1 c.loop-kept.invariant.room).1);
    }

pub returns-clause-gate : goal.returns-clause-gate
returns-clause-gate c =
    let none : c.take_oldest.result ≡ None = search rules in
    let t = rw none at c.take_oldest.ensures in
    t.0 ∙ (sym (from_none c.args.position c.loop-kept.self t.2) ∙ c.loop-kept.invariant.gate)

pub returns-clause-released : goal.returns-clause-released
returns-clause-released c =
    let none : c.take_oldest.result ≡ None = search rules in
    let t = rw none at c.take_oldest.ensures in
    released_none c.args.position c.loop-kept.self c.loop-kept.into t.1 ∙ c.loop-kept.invariant.released
