use Rattle.std.proofs.Common.{[], sym, ap, ◌∙◌, subst}
use Rattle.node_actor.specs.declared.node_core.NodeCore.{NodeCore}
use Rattle.node_actor.specs.Cores.{steps_of, IsReady, IsInStep}
use Rattle.node_actor.specs.Stores.{KeepsChunks}
use Rattle.cluster_seats.proofs.seating.seat.Goals as goal

pub returns : goal.returns
returns g c =
    let core = c.new-core.ensures in
    let is = c.new.ensures.core in
    let store = ap (λ (k : NodeCore _ _). k.store) is ∙ core.store in
    record {
      begins = record {
        going = c.new.ensures.going;
        ready = subst (IsReady g.N.NodeModel) (sym is) core.ready;
        none = ap steps_of is ∙ core.none;
        plan_is = ap (λ (k : NodeCore _ _). k.plan) is ∙ core.plan;
        in_step = λ keeps.
            subst (IsInStep g.N.NodeModel g.D.Disk) (sym is)
            (core.in_step c.requires.fresh (subst (λ s. KeepsChunks g.D.Disk s []) store keeps).0);
      };
      cfg = ap (λ (k : NodeCore _ _). k.cfg) is ∙ core.cfg;
      name = ap (λ (k : NodeCore _ _). k.name) is ∙ core.name;
      faults = ap (λ (k : NodeCore _ _). k.faults.items) is ∙ ap (λ v. v.items) core.faults;
      store = store;
      outs_are = ap (λ v. v.items) c.new.ensures.outs;
      ins_are = ap (λ v. v.items) c.new.ensures.ins;
    }
