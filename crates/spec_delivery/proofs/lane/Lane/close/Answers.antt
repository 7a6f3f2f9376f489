use Rattle.std.proofs.Common.{rules, ◌≡◌, nat_lt, filter, ap}
use Rattle.std.proofs.lemmas.Map.Made.{filter_same_pairs}
use Rattle.spec_delivery.specs.Lanes.{closed}
use Rattle.spec_delivery.proofs.LaneLemmas.{reach_closed}
use Rattle.spec_delivery.proofs.lane.Lane.close.Goals as goal

pub returns : goal.returns
returns c =
    let kept : c.retain.new.self.entries ≡ filter (λ e. nat_lt e.0 c.args.end) c.self.inside.held.entries =
    filter_same_pairs _ (λ e. nat_lt e.0 c.args.end) _ (λ k v b w f t. search rules) _ _ c.retain.ensures.filtered in
    rw kept (ap (λ l. closed l c.args.end) c.self.view_is)

pub invariant_of-self : goal.invariant_of-self
invariant_of-self c =
    let kept : c.retain.new.self.entries ≡ filter (λ e. nat_lt e.0 c.args.end) c.self.inside.held.entries =
    filter_same_pairs _ (λ e. nat_lt e.0 c.args.end) _ (λ k v b w f t. search rules) _ _ c.retain.ensures.filtered in
    (c.self.invariant.0, reach_closed c.self.inside.floor c.self.inside.end c.args.end c.self.inside.held.entries _ c.self.invariant.1 kept, c.retain.ensures.ordered)
