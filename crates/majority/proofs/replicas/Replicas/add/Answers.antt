use Rattle.std.proofs.Common.{◌≡◌, ℕ, ◌<◌, List, nat_eq, Bool, false, sym, ap, ◌∙◌, arith}
use Rattle.std.specs.List.{list_any}
use Rattle.std.proofs.lemmas.List.Elements.{All-push}
use Rattle.majority.proofs.Members.{IsDistinct_push, length_push_below}
use Rattle.majority.proofs.replicas.Replicas.add.Goals as goal

-- the replica is not among the numbers
fresh : (x : ℕ) (numbers now : List ℕ) (answer : Bool) → numbers ≡ now → answer ≡ list_any (nat_eq x) now → answer ≡ false → list_any (nat_eq x) numbers ≡ false
fresh x numbers now answer same says negative = ap (list_any (nat_eq x)) same ∙ (sym says ∙ negative)

pub push-requires : goal.push-requires
push-requires c =
    let new = fresh c.args.replica c.self.inside.numbers.items c.args.self.now c.has.result c.self.view_is c.has.ensures c.if-not-has.true in
    (omega arith, length_push_below 256 c.args.replica c.self.inside.numbers.items c.self.invariant.1 (omega (arith, c.ranges.replica.fits)) c.self.invariant.0 new)

pub invariant_of-self : goal.invariant_of-self
invariant_of-self c =
    let numbers = c.self.inside.numbers.items in
    let new = fresh c.args.replica numbers c.args.self.now c.has.result c.self.view_is c.has.ensures c.if-not-has.true in
    rw c.push.ensures.items (IsDistinct_push c.args.replica numbers c.self.invariant.0 new, All-push (λ number. number < 256) numbers c.args.replica c.self.invariant.1 (omega (arith, c.ranges.replica.fits)))
