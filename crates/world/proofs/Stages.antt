-- A script, input after input.
use Rattle.std.proofs.Common.{◌≡◌, ℕ, ◌+◌, ◌<◌, List, ◌∷◌, length, take, drop, get_or, Option, None, sym, ap, ◌∙◌, subst}
use Rattle.std.specs.Option.{option_or}
use Rattle.std.proofs.lemmas.List.{drop_more}
use Rattle.std.proofs.lemmas.List.Sums.{fold_more}
use Rattle.world.specs.inside.Names.{PlayError, Config, Input}
use Rattle.world.specs.declared.errors.PlayError.TheVariants as faults
use Rattle.world.specs.Playing.{Playing, nothing_played, played, played_all, input_fault, played_unless, fault_from, play_fault}
use Rattle.world.specs.inside.PlayerSteps.{PlayerState, played_of, plays}
use Rattle.world.proofs.Kept.{Keeps, keeps_played, sent_before}

-- the inputs below a place are played and none of them is refused; whether one is, the others tell
pub record IsPlayedTo (cfg : Config) (given : List Input) (at : ℕ) (s : PlayerState) : Type 0 where
  pub keeps : Keeps cfg s (played_all cfg (take at given))
  pub later : play_fault cfg given ≡ fault_from cfg at (played_all cfg (take at given)) (drop at given)

-- one more
pub goes_on : (cfg : Config) (given : List Input) (at : ℕ) (s s' : PlayerState) (x : Input) → at < length given → x ≡ get_or given at x
    → input_fault at (played_of s) x ≡ None → s' ≡ plays s x → IsPlayedTo cfg given at s
    → IsPlayedTo cfg given (at + 1) s'
goes_on cfg given at s s' x below here judged done is =
    let p : Playing = played_all cfg (take at given) in
    let more : played_all cfg (take (at + 1) given) ≡ played cfg p x = fold_more (played cfg) nothing_played given at x below ∙ ap (played cfg p) (sym here) in
    let fine : input_fault at p x ≡ None = sym (ap (λ (k : PlayerState). input_fault at (played_of k) x) is.keeps.same) ∙ judged in
    let kept : Keeps cfg (plays s x) (played cfg p x) = keeps_played cfg x s p (sent_before at p x fine) is.keeps in
    let next : drop at given ≡ x ∷ drop (at + 1) given = drop_more given at x below ∙ ap (λ (y : Input). y ∷ drop (at + 1) given) (sym here) in
    record {
      keeps = subst (λ (q : Playing). Keeps cfg s' q) (sym more) (subst (λ (k : PlayerState). Keeps cfg k (played cfg p x)) (sym done) kept);
      later =
          is.later ∙ ap (fault_from cfg at p) next
          ∙ ap (λ (f : Option PlayError). option_or f (fault_from cfg (at + 1) (played_unless f cfg p x) (drop (at + 1) given))) fine
          ∙ ap (λ (q : Playing). fault_from cfg (at + 1) q (drop (at + 1) given)) (sym more);
    }
