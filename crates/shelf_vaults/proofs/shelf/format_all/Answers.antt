use Rattle.std.proofs.Common.{◌≡◌, ◌∙◌, suc, ◌+◌, ℕ, List, [], false, slice_index_or, sym, ap, subst, take, arith}
use Rattle.std.specs.List.{AllByRecursion}
use Rattle.std.proofs.lemmas.Option.{slice_get-get_or}
use Rattle.spec_base.specs.declared.node.NodeId.TheVariants as nodes
use Rattle.spec_base.specs.Spelling.{node_name}
use Rattle.gate_vault.specs.Vault.{KeepsWithGate}
use Rattle.shelf_vaults.specs.Sights.{Sight, sight, EachWith, AreOn, AreOut, BreaksOff, IsBackAs, IsOutAs, IsNameOfNone, TellsBytes}
use Rattle.shelf_vaults.proofs.Eaches.{each_stays}
use Rattle.shelf_vaults.proofs.Forward.{each_after, others_after, none_before, none_front, none_take, own_take, outs_of, not_at, all_end}
use Rattle.shelf_vaults.proofs.Breaks.{on_err, all_there, is_among, breaks_at_once, fault_among, each_disk, broken_off}
use Rattle.shelf_vaults.proofs.shelf.format_all.Given
use Rattle.shelf_vaults.proofs.shelf.format_all.Goals as goal

pub returns-in_err-vaults-clause-breaks_off : goal.returns-in_err-vaults-clause-breaks_off
returns-in_err-vaults-clause-breaks_off g c =
    on_err c.from_residual.result _ (breaks_at_once g.H.D.Disk.seen c.args.nodes.now
    (sight g.H.Shelf.faults g.H.Shelf.in_a_row g.H.Shelf.is_out g.H.Shelf.given g.H.Shelf.kept c.args.shelf.now))

pub format_one-requires-clause-on_shelf : goal.format_one-requires-clause-on_shelf
format_one-requires-clause-on_shelf g c = λ κs lives.
    let n = c.loop-node.node-index in
    let there = slice_get-get_or c.args.nodes.now n (nodes.Seq 0) c.loop-node-test.true in
    let same = c.loop-node.invariant.others _ (none_before c.args.nodes.now n _ there c.requires.names) in
    ap (λ (s : Sight g.row.H-D.Denot). s.is_out) same
    ∙ all_there (λ node. (sight g.H.Shelf.faults g.H.Shelf.in_a_row g.H.Shelf.is_out g.H.Shelf.given g.H.Shelf.kept c.args.shelf.now
    (node_name node)).is_out ≡ false) c.args.nodes.now n _ c.requires.on_shelf there

pub give_back-requires-clause-names : goal.give_back-requires-clause-names
give_back-requires-clause-names g c = λ κs lives. own_take c.len-made.result c.args.nodes.now c.requires.names

pub give_back-requires-clause-out : goal.give_back-requires-clause-out
give_back-requires-clause-out g c = λ κs lives.
    let told = sight g.H.Shelf.faults g.H.Shelf.in_a_row g.H.Shelf.is_out g.H.Shelf.given g.H.Shelf.kept in
    let n = c.loop-node.node-index in
    let at : n ≡ c.len-made.result = omega (arith, c.len-made.ensures, c.loop-node.invariant.size) in
    let there = slice_get-get_or c.args.nodes.now n (nodes.Seq 0) c.loop-node-test.true in
    let node = slice_index_or c.args.nodes.now n (nodes.Seq 0) in
    let out = each_stays (IsOutAs g.H.D.Disk.faults) (told c.args.shelf.now) (told c.loop-node.shelf) (told c.format_one.new.shelf) (node_name node)
    (take n c.args.nodes.now) c.loop-node.vaults.items c.in-Err.ensures.others (none_before c.args.nodes.now n node there c.requires.names)
    c.loop-node.invariant.out in
    subst (λ k. AreOut (told c.format_one.new.shelf) (take k c.args.nodes.now)) at
    (outs_of (IsOutAs g.H.D.Disk.faults) (told c.args.shelf.now) (told c.format_one.new.shelf) (take n c.args.nodes.now) c.loop-node.vaults.items
    (λ s t v out. out.out) out)

pub returns-in-Err-clause-others : goal.returns-in-Err-clause-others
returns-in-Err-clause-others g c = λ name none.
    let n = c.loop-node.node-index in
    let there = slice_get-get_or c.args.nodes.now n (nodes.Seq 0) c.loop-node-test.true in
    let node = slice_index_or c.args.nodes.now n (nodes.Seq 0) in
    c.give_back.ensures.others name (none_take c.len-made.result c.args.nodes.now name none)
    ∙ c.in-Err.ensures.others name (λ e. not_at c.args.nodes.now n node name there none (sym e))
    ∙ c.loop-node.invariant.others name (none_take n c.args.nodes.now name none)

-- what stands after the disk of a node failed
after_break : (g : Given.Over) (c : goal.After-give_back g)
    → AreOn (sight g.H.Shelf.faults g.H.Shelf.in_a_row g.H.Shelf.is_out g.H.Shelf.given g.H.Shelf.kept c.give_back.new.shelf) c.args.nodes.now
    × BreaksOff g.H.D.Disk.seen c.args.nodes.now (sight g.H.Shelf.faults g.H.Shelf.in_a_row g.H.Shelf.is_out g.H.Shelf.given g.H.Shelf.kept c.args.shelf.now)
    (sight g.H.Shelf.faults g.H.Shelf.in_a_row g.H.Shelf.is_out g.H.Shelf.given g.H.Shelf.kept c.give_back.new.shelf)
after_break g c =
    let told = sight g.H.Shelf.faults g.H.Shelf.in_a_row g.H.Shelf.is_out g.H.Shelf.given g.H.Shelf.kept in
    let n = c.loop-node.node-index in
    let there = slice_get-get_or c.args.nodes.now n (nodes.Seq 0) c.loop-node-test.true in
    let node = slice_index_or c.args.nodes.now n (nodes.Seq 0) in
    let none = none_before c.args.nodes.now n node there c.requires.names in
    let at : c.len-made.result ≡ n = omega (arith, c.len-made.ensures, c.loop-node.invariant.size) in
    let left = subst (λ k. (name : List ℕ) → IsNameOfNone (take k c.args.nodes.now) name → told c.give_back.new.shelf name ≡ told
    c.format_one.new.shelf name) at
    c.give_back.ensures.others in
    let before = others_after (told c.args.shelf.now) (told c.loop-node.shelf) (told c.format_one.new.shelf) c.args.nodes.now n node there
    c.in-Err.ensures.others c.loop-node.invariant.others in
    let Back = IsBackAs g.H.D.Disk.faults g.H.D.Disk.in_a_row in
    let back = each_disk Back (told c.format_one.new.shelf) (told c.give_back.new.shelf) (take n c.args.nodes.now) c.loop-node.vaults.items
    (subst (EachWith Back (told c.format_one.new.shelf) (told c.give_back.new.shelf) (take n c.args.nodes.now)) c.disks_of.ensures
    (subst (λ k. EachWith Back (told c.format_one.new.shelf) (told c.give_back.new.shelf) (take k c.args.nodes.now) c.disks_of.result.items) at
    c.give_back.ensures.back)) in
    broken_off g.H.D.Disk.faults g.H.D.Disk.in_a_row g.H.D.Disk.seen g.H.D.Disk.may_leave (told c.args.shelf.now) (told c.give_back.new.shelf)
    (told c.format_one.new.shelf) c.args.nodes.now n node c.loop-node.vaults.items there c.requires.names c.requires.on_shelf
    (ap (λ (s : Sight g.row.H-D.Denot). s.is_out) (left (node_name node) none) ∙ c.in-Err.ensures.back)
    (λ name apart. left name (none_front c.args.nodes.now n node name there apart) ∙ before name apart) back c.loop-node.invariant.empty

pub returns-in-Err-clause-back : goal.returns-in-Err-clause-back
returns-in-Err-clause-back g c = (after_break g c).0

pub returns-in-Err-clause-breaks_off : goal.returns-in-Err-clause-breaks_off
returns-in-Err-clause-breaks_off g c = (after_break g c).1

pub returns-in-Err-clause-fault : goal.returns-in-Err-clause-fault
returns-in-Err-clause-fault g c =
    let told = sight g.H.Shelf.faults g.H.Shelf.in_a_row g.H.Shelf.is_out g.H.Shelf.given g.H.Shelf.kept in
    let n = c.loop-node.node-index in
    let there = slice_get-get_or c.args.nodes.now n (nodes.Seq 0) c.loop-node-test.true in
    let node = slice_index_or c.args.nodes.now n (nodes.Seq 0) in
    let none = none_before c.args.nodes.now n node there c.requires.names in
    let at : n ≡ c.len-made.result = omega (arith, c.len-made.ensures, c.loop-node.invariant.size) in
    fault_among g.H.D.Disk.faults c.args.nodes.now (told c.args.shelf.now) (told c.give_back.new.shelf) node (told c.loop-node.shelf (node_name node))
    (told c.format_one.new.shelf (node_name node)) c.in-Err.error (c.loop-node.invariant.others (node_name node) none)
    (sym (c.give_back.ensures.others (node_name node) (subst (λ k. IsNameOfNone (take k c.args.nodes.now) (node_name node)) at none)))
    (is_among c.args.nodes.now n node there) c.in-Err.ensures.fault

pub loop-node-preserved : goal.loop-node-preserved
loop-node-preserved g c =
    let told = sight g.H.Shelf.faults g.H.Shelf.in_a_row g.H.Shelf.is_out g.H.Shelf.given g.H.Shelf.kept in
    let now = c.loop-node.invariant in
    let n = c.loop-node.node-index in
    let there = slice_get-get_or c.args.nodes.now n (nodes.Seq 0) c.loop-node-test.true in
    let node = slice_index_or c.args.nodes.now n (nodes.Seq 0) in
    let none = none_before c.args.nodes.now n node there c.requires.names in
    let next : suc n ≡ n + 1 = omega arith in
    let same = now.others (node_name node) none in
    let more = c.push_reserved.ensures.items in
    let told_there = all_there (λ node. TellsBytes g.H.D.Disk.seen (told c.args.shelf.now (node_name node)).kept) c.args.nodes.now n node
    c.requires.told there in
    let tells_now = subst (λ (s : Sight g.row.H-D.Denot). TellsBytes g.H.D.Disk.seen s.kept) (sym same) told_there in
    record {
      size = c.push_reserved.ensures.len ∙ ap (λ k. k + 1) now.size;
      room = c.push_reserved.ensures.capacity ∙ now.room;
      tells = c.in-Ok.ensures.tells ∙ now.tells;
      others = subst (λ k. (name : List ℕ) → IsNameOfNone (take k c.args.nodes.now) name → told c.format_one.new.shelf name ≡ told c.args.shelf.now name) next
          (others_after (told c.args.shelf.now) (told c.loop-node.shelf) (told c.format_one.new.shelf) c.args.nodes.now n node there
          c.in-Ok.ensures.others now.others);
      out = subst (λ k. EachWith (IsOutAs g.H.D.Disk.faults) (told c.args.shelf.now) (told c.format_one.new.shelf) (take k c.args.nodes.now)
          c.push_reserved.new.self.items) next
          (subst (EachWith (IsOutAs g.H.D.Disk.faults) (told c.args.shelf.now) (told c.format_one.new.shelf) (take (suc n) c.args.nodes.now)) (sym more)
          (each_after (IsOutAs g.H.D.Disk.faults) (told c.args.shelf.now) (told c.loop-node.shelf) (told c.format_one.new.shelf) c.args.nodes.now
          c.loop-node.vaults.items n node c.in-Ok.vault there c.requires.names c.in-Ok.ensures.others now.out
          (subst (λ s. IsOutAs g.H.D.Disk.faults s (told c.format_one.new.shelf (node_name node)) c.in-Ok.vault) same c.in-Ok.ensures.out)));
      empty = subst (AllByRecursion (λ vault. KeepsWithGate g.H.D.Disk.seen g.H.D.Disk.may_leave vault [])) (sym more)
          (all_end (λ vault. KeepsWithGate g.H.D.Disk.seen g.H.D.Disk.may_leave vault []) c.loop-node.vaults.items c.in-Ok.vault now.empty
          (c.in-Ok.ensures.empty tells_now));
    }
