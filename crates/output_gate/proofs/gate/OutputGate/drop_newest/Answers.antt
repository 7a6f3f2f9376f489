use Rattle.std.proofs.Common.{rules, ◌≡◌, nat_le, inl, inr}
use Rattle.app_law.proofs.EndLemmas.{Newest, newest_empty, newest_last}
use Rattle.output_gate.specs.Gates.{out_position}
use Rattle.output_gate.proofs.GateLemmas.{drops_none, drops_some, rising_newest}
use Rattle.output_gate.proofs.gate.OutputGate.drop_newest.Goals.{in-Some, in-None}
use Rattle.output_gate.proofs.gate.OutputGate.drop_newest.Goals as goal

newest : (c : goal.Joined-pop_back_if) → Newest out_position c.args.position c.self.inside.held.items c.pop_back_if.new.self.items c.pop_back_if.result
newest c =
    elim c.pop_back_if.ensures.cases [
      | inl h ↦ newest_empty out_position _ _ _ _ h.0 h.1 h.2
      | inr h ↦
          let called = h.5 in
          let told : (h.2 ≡ nat_le c.args.position h.1.position) × (h.3 ≡ h.1) = search rules in
          newest_last out_position _ _ _ h.0 h.1 h.3 h.2 _ c.self.invariant h.4 told.0 told.1 h.6 h.7
    ]

pub returns : goal.returns
returns c =
    let n = newest c in
    elim c.match-pop_back_if.branch [
      | in-Some w ↦ rw w.result-is (drops_some _ _ _ _ _ _ _ c.pop_back_if.ensures.capacity c.self.view_is (rw w.in-Some.is at n))
      | in-None w ↦ rw w.result-is (drops_none _ _ _ _ _ _ c.pop_back_if.ensures.capacity c.self.view_is (rw w.in-None.is at n))
    ]

pub invariant_of-self : goal.invariant_of-self
invariant_of-self c = rising_newest _ _ _ _ c.self.invariant (newest c)
