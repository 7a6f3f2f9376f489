-- What a turn of a reader does.
use Rattle.std.proofs.Common.{◌≡◌, ℕ, ◌+◌, ◌≤◌, cond, Bool, true, false, List, [], ◌∷◌, ◌++◌, Option}
use Rattle.std.proofs.Common.{None, Some, refl, ap, sym, subst, ◌∙◌, le_refl, le_trans, length-append, arith}
use Rattle.std.specs.List.{All, Contains}
use Rattle.std.proofs.lemmas.List.Elements.{All-nil, All-cons, All-append, All-push}
use Rattle.std.proofs.lemmas.Bool.{false≢true}
use mathlib.Core.List.{IsPrefix}
use Rattle.view_cell.specs.declared.look.Look.{Look}
use Rattle.view_cell.specs.Looks.{newest_of, last_number}
use Rattle.view_cell.proofs.Rising.{number_more, newest_stands, all_stand}
use Rattle.cluster_users.specs.declared.notes.Notes.{Notes}
use Rattle.cluster_users.specs.Noting.{noted, all_noted, is_again, RiseStrictly}
use Rattle.cluster_users.specs.inside.Readers.{IsUpTo, IsUpToBefore, IsReading}
use Rattle.cluster_users.specs.Reading.{Reading, NeverFall, Looked, Reads}
use Rattle.cluster_users.proofs.Items.{prefix_trans}
use Rattle.cluster_users.proofs.Noted.{noted_rise}

pub up_to_later : (before : Option ℕ) (kept : List Look) (n m : ℕ) → IsUpToBefore before kept n → n ≤ m → IsUpToBefore before kept m
up_to_later None kept n m up le = up
up_to_later (Some b) kept n m up le = (up.0, le_trans up.1 le)

kept_up_to : (again : Bool) (before : Option ℕ) (kept : List Look) (look : Look) → is_again before look.ops ≡ again → IsUpToBefore before kept look.ops
    → last_number 0 (cond again kept (kept ++ look ∷ [])) ≤ look.ops
kept_up_to true None kept look e up = absurd (false≢true e)
kept_up_to true (Some b) kept look e up = le_trans up.0 up.1
kept_up_to false before kept look e up = let last = number_more 0 kept look in omega (arith, last)

noted_up_to : (notes : Notes) (look : Look) → IsUpTo notes look.ops → IsUpTo (noted notes look) look.ops
noted_up_to notes look up = (kept_up_to (is_again notes.before look.ops) notes.before notes.kept look refl up, le_refl look.ops)

kept_stand : (again : Bool) (seen kept : List Look) (look : Look) → All (Contains seen) kept → Contains seen look
    → All (Contains seen) (cond again kept (kept ++ look ∷ []))
kept_stand true seen kept look all one = all
kept_stand false seen kept look all one = All-push (Contains seen) kept look all one

pub noted_stand : (seen : List Look) (notes : Notes) (look : Look) → All (Contains seen) notes.kept → Contains seen look
    → All (Contains seen) (noted notes look).kept
noted_stand seen notes look all one = kept_stand (is_again notes.before look.ops) seen notes.kept look all one

-- with a look more, or with none, it is still a reader as every reader is
pub reading_more : (r s : Reading) → IsReading r → IsPrefix r.pass.seen s.pass.seen → r.pass.last.ops ≤ s.pass.last.ops
    → newest_of s.pass.seen ≡ Some s.pass.last → s.notes ≡ noted r.notes s.pass.last → IsReading s
reading_more r s was seen rises newest e =
    let up = up_to_later r.notes.before r.notes.kept r.pass.last.ops s.pass.last.ops was.up_to rises in
    record {
      rise = subst (λ (n : Notes). RiseStrictly n.kept) (sym e) (noted_rise r.notes s.pass.last was.rise up);
      stand = subst (λ (n : Notes). All (Contains s.pass.seen) n.kept) (sym e)
          (noted_stand s.pass.seen r.notes s.pass.last (all_stand r.pass.seen s.pass.seen r.notes.kept seen was.stand)
          (newest_stands s.pass.seen s.pass.last newest));
      up_to = subst (λ (n : Notes). IsUpTo n s.pass.last.ops) (sym e) (noted_up_to r.notes s.pass.last up);
    }

pub reading_on : (r s : Reading) → IsReading r → IsPrefix r.pass.seen s.pass.seen → r.pass.last.ops ≤ s.pass.last.ops → s.notes ≡ r.notes → IsReading s
reading_on r s was seen rises e = record {
  rise = subst (λ (n : Notes). RiseStrictly n.kept) (sym e) was.rise;
  stand = subst (λ (n : Notes). All (Contains s.pass.seen) n.kept) (sym e) (all_stand r.pass.seen s.pass.seen r.notes.kept seen was.stand);
  up_to = subst (λ (n : Notes). IsUpTo n s.pass.last.ops) (sym e) (up_to_later r.notes.before r.notes.kept r.pass.last.ops s.pass.last.ops was.up_to rises);
}

-- one look, of a reader that is seen so
pub looked_once : (q r s : Reading) → r ≡ q → IsReading r → (s.number ≡ r.number) × (s.consumer ≡ r.consumer) × (s.pass.cell ≡ r.pass.cell)
    → s.begun ≡ r.begun → s.wanting ≡ r.wanting → IsPrefix r.pass.seen s.pass.seen → r.pass.last.ops ≤ s.pass.last.ops
    → newest_of s.pass.seen ≡ Some s.pass.last → s.notes ≡ noted r.notes s.pass.last → Reads 1 q s
looked_once q r s shown was same begun wanting seen rises newest e = subst (λ u. Reads 1 u s) shown (record {
  goes_on = record { same = same; seen = seen; rises = rises; rise = (reading_more r s was seen rises newest e).rise };
  episode = begun;
  went_well = λ well. sym wanting ∙ well;
  looked = λ well. record {
    looks = s.pass.last ∷ [];
    each_turn = refl;
    kept = e;
    never_fall = (rises, le_refl s.pass.last.ops);
    stand = All-cons (Contains s.pass.seen) s.pass.last [] (newest_stands s.pass.seen s.pass.last newest) (All-nil (Contains s.pass.seen));
  };
})

all_noted_append : (notes : Notes) (xs ys : List Look) → all_noted notes (xs ++ ys) ≡ all_noted (all_noted notes xs) ys
all_noted_append notes [] ys = refl
all_noted_append notes (x ∷ xs) ys = all_noted_append (noted notes x) xs ys

fall_later : (a b c : ℕ) (ys : List Look) → a ≤ b → NeverFall b ys c → NeverFall a ys c
fall_later a b c [] le fall = le_trans le fall
fall_later a b c (y ∷ ys) le fall = (le_trans le fall.0, fall.1)

never_fall_append : (a b c : ℕ) (xs ys : List Look) → NeverFall a xs b → NeverFall b ys c → NeverFall a (xs ++ ys) c
never_fall_append a b c [] ys some more = fall_later a b c ys some more
never_fall_append a b c (x ∷ xs) ys some more = (some.0, never_fall_append x.ops b c xs ys some.1 more)

looked_on : (turns : ℕ) (q r s : Reading) → IsPrefix r.pass.seen s.pass.seen → Looked turns q r → Looked 1 r s → Looked (turns + 1) q s
looked_on turns q r s seen some one = record {
  looks = some.looks ++ one.looks;
  each_turn = length-append some.looks one.looks ∙ omega (arith, some.each_turn, one.each_turn);
  kept = one.kept ∙ ap (λ n. all_noted n one.looks) some.kept ∙ sym (all_noted_append q.notes some.looks one.looks);
  never_fall = never_fall_append q.pass.last.ops r.pass.last.ops s.pass.last.ops some.looks one.looks some.never_fall one.never_fall;
  stand = All-append (Contains s.pass.seen) some.looks one.looks (all_stand r.pass.seen s.pass.seen some.looks seen some.stand) one.stand;
}

-- turns, and one more
pub reads_on : (turns : ℕ) (q r s : Reading) → Reads turns q r → Reads 1 r s → Reads (turns + 1) q s
reads_on turns q r s some one =
    let a = some.goes_on in
    let b = one.goes_on in
    record {
      goes_on = record {
        same = (b.same.0 ∙ a.same.0, b.same.1 ∙ a.same.1, b.same.2 ∙ a.same.2);
        seen = prefix_trans q.pass.seen r.pass.seen s.pass.seen a.seen b.seen;
        rises = le_trans a.rises b.rises;
        rise = b.rise;
      };
      episode = one.episode ∙ some.episode;
      went_well = λ well. some.went_well (one.went_well well);
      looked = λ well. looked_on turns q r s b.seen (some.looked (one.went_well well)) (one.looked well);
    }
