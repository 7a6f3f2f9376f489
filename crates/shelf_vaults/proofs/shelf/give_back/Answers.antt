use Rattle.std.proofs.Common.{◌≡◌, ◌∙◌, suc, ℕ, List, vec_len, IsTrue, refl, sym, ap, subst, take, drop, arith}
use Rattle.spec_base.specs.Shelf.{SameBut}
use Rattle.spec_base.specs.Spelling.{node_name}
use Rattle.shelf_vaults.specs.Sights.{sight, EachWith, IsBackAs, IsNameOfNone}
use Rattle.shelf_vaults.proofs.Eaches.{each_before, others_before, left_after, named_by, still_out, same_sight, back_as}
use Rattle.shelf_vaults.proofs.shelf.give_back.Goals as goal

pub back-requires : goal.back-requires
back-requires g c =
    let now = c.loop-disk.invariant in
    let next : suc c.len.result ≡ vec_len c.loop-disk.disks = omega (arith, c.in-Some.ensures.cases, c.len.ensures) in
    let named = named_by c.args.nodes.now c.len.result _ c.name_of.result.now (omega (arith, next, now.within, c.requires.each))
    (c.name_of.ensures ∙ c.spell-spelled.ensures) in
    let still = still_out (sight g.H.Shelf.faults g.H.Shelf.in_a_row g.H.Shelf.is_out g.H.Shelf.given g.H.Shelf.kept c.args.shelf.now)
    (sight g.H.Shelf.faults g.H.Shelf.in_a_row g.H.Shelf.is_out g.H.Shelf.given g.H.Shelf.kept c.loop-disk.shelf) c.args.nodes.now c.len.result
    named.0 named.1
    c.requires.names (λ name none. now.others name (subst (λ k. IsNameOfNone (drop k c.args.nodes.now) name) next none)) c.requires.out in
    ap (g.H.Shelf.is_out c.loop-disk.shelf) named.2 ∙ still.1

pub loop-disk-preserved : goal.loop-disk-preserved
loop-disk-preserved g c =
    let now = c.loop-disk.invariant in
    let n = c.len.result in
    let next : suc n ≡ vec_len c.loop-disk.disks = omega (arith, c.in-Some.ensures.cases, c.len.ensures) in
    let named = named_by c.args.nodes.now n _ c.name_of.result.now (omega (arith, next, now.within, c.requires.each))
    (c.name_of.ensures ∙ c.spell-spelled.ensures) in
    let told = sight g.H.Shelf.faults g.H.Shelf.in_a_row g.H.Shelf.is_out g.H.Shelf.given g.H.Shelf.kept in
    let others : (name : List ℕ) → IsNameOfNone (drop (suc n) c.args.nodes.now) name → told c.loop-disk.shelf name ≡ told c.args.shelf.now name =
    (λ name none. now.others name (subst (λ k. IsNameOfNone (drop k c.args.nodes.now) name) next none)) in
    let still = still_out (told c.args.shelf.now) (told c.loop-disk.shelf) c.args.nodes.now n named.0 named.1 c.requires.names others c.requires.out in
    let Back = IsBackAs g.H.D.Disk.faults g.H.D.Disk.in_a_row in
    let back = c.back.ensures in
    let name = c.name_of.result.now in
    let same_but : SameBut name (told c.loop-disk.shelf) (told c.back.new.self) =
    (λ other apart. same_sight (told c.back.new.self other) (told c.loop-disk.shelf other) (back.other_faults other apart) (back.other_rows other apart)
    (back.other_out other apart) (back.other_given other apart) (back.other_kept other apart)) in
    let same = subst (λ spelled. SameBut spelled (told c.loop-disk.shelf) (told c.back.new.self)) named.2 same_but in
    let at_name : told c.loop-disk.shelf name ≡ told c.args.shelf.now (node_name named.0) = ap (told c.loop-disk.shelf) named.2 ∙ still.0 in
    let left = left_after c.args.disks.items c.loop-disk.disks.items c.pop.new.self.items n (vec_len c.loop-disk.disks) c.in-Some.disk now.left
    (omega (arith, next)) now.within c.in-Some.ensures.rest (c.in-Some.ensures.value c.in-Some.disk (omega (arith, next))) in
    let tells = subst IsTrue (sym now.tells) c.requires.tells in
    let here = back_as g.H.D.Disk.faults g.H.D.Disk.in_a_row (told c.args.shelf.now (node_name named.0)) (told c.loop-disk.shelf name)
    (told c.back.new.self name) c.in-Some.disk c.in-Some.disk at_name refl back.on_shelf back.count back.row
    (back.kept tells) in
    let here_named = subst (λ spelled. IsBackAs g.H.D.Disk.faults g.H.D.Disk.in_a_row (told c.args.shelf.now (node_name named.0))
    (told c.back.new.self spelled) c.in-Some.disk) named.2 here in
    let at : n ≡ vec_len c.pop.new.self = c.len.ensures in
    let later = subst (λ k. EachWith Back (told c.args.shelf.now) (told c.loop-disk.shelf) (drop k c.args.nodes.now) (drop k c.args.disks.items))
    (sym next) now.back in
    record {
      left = subst (λ k. c.pop.new.self.items ≡ take k c.args.disks.items) at left.0;
      within = omega (arith, next, now.within, at);
      tells = back.tells ∙ now.tells;
      others = subst (λ k. (other : List ℕ) → IsNameOfNone (drop k c.args.nodes.now) other → told c.back.new.self other ≡ told c.args.shelf.now other) at
          (others_before (told c.args.shelf.now) (told c.loop-disk.shelf) (told c.back.new.self) c.args.nodes.now n named.0 named.1 same others);
      back = subst (λ k. EachWith Back (told c.args.shelf.now) (told c.back.new.self) (drop k c.args.nodes.now) (drop k c.args.disks.items)) at
          (each_before Back (told c.args.shelf.now) (told c.loop-disk.shelf) (told c.back.new.self) c.args.nodes.now c.args.disks.items n named.0
          c.in-Some.disk
          named.1 left.1 c.requires.names same here_named later);
    }
