use Rattle.std.proofs.Common.{rules, ◌≡◌, nat_lt, inl, inr}
use Rattle.app_law.proofs.EndLemmas.{Oldest, oldest_empty, oldest_first}
use Rattle.output_gate.specs.Gates.{out_position}
use Rattle.output_gate.proofs.GateLemmas.{takes, rising_oldest}
use Rattle.output_gate.proofs.gate.OutputGate.take_oldest.Goals as goal

oldest : (c : goal.After-pop_front_if) → Oldest out_position c.args.position c.self.inside.held.items c.pop_front_if.new.self.items c.pop_front_if.result
oldest c =
    elim c.pop_front_if.ensures.cases [
      | inl h ↦ oldest_empty out_position _ _ _ _ h.0 h.1 h.2
      | inr h ↦
          let called = h.5 in
          let told : (h.2 ≡ nat_lt h.1.position c.args.position) × (h.3 ≡ h.1) = search rules in
          oldest_first out_position _ _ _ h.0 h.1 h.3 h.2 _ c.self.invariant h.4 told.0 told.1 h.6 h.7
    ]

pub returns : goal.returns
returns c = takes _ _ _ _ _ _ _ c.pop_front_if.ensures.capacity c.self.view_is (oldest c)

pub invariant_of-self : goal.invariant_of-self
invariant_of-self c = rising_oldest _ _ _ _ c.self.invariant (oldest c)
