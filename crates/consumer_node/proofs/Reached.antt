-- The states that an application comes to by valid records, and what it writes in them.
use Rattle.std.proofs.Common.{◌≡◌, ◌≤◌, List, [], ◌∷◌, ◌++◌, length, refl, sym, ap, ◌∙◌}
use Rattle.std.specs.List.{AllByRecursion}
use Rattle.consumer_node.specs.inside.Names.{IsValidRecord, fold_of, Meaning}
use Rattle.app_law.proofs.Folds.{fold_of_append}
use Rattle.node_rules.specs.Names.{Record}
use Rattle.node_rules.proofs.Lists.{all_append}

-- a state comes after valid records from another one
pub record IsReached {A : Type 0} (app : Meaning A) (from to : A) : Type 0 where
  pub log : List Record
  pub valid : AllByRecursion IsValidRecord log
  pub is : to ≡ fold_of app.next from log

-- what is written in each state that comes after one has at most 64 bytes
abbrev pub OutputsFitFrom : {A : Type 0} → Meaning A → A → Type 0
OutputsFitFrom {A} app from = (state : A) (rec : Record) → IsReached app from state → IsValidRecord rec → length (app.output state rec) ≤ 64

pub reached_none : {A : Type 0} (app : Meaning A) (state : A) → IsReached app state state
reached_none app state = record { log = []; valid = tt; is = refl }

pub reached_next : {A : Type 0} (app : Meaning A) (from to : A) (rec : Record) → IsValidRecord rec → IsReached app from to
    → IsReached app from (app.next to rec)
reached_next {A} app from to rec valid reached = record {
  log = reached.log ++ rec ∷ [];
  valid = all_append IsValidRecord reached.log (rec ∷ []) reached.valid (valid, tt);
  is = ap (λ (s : A). app.next s rec) reached.is ∙ sym (fold_of_append app.next from reached.log (rec ∷ []));
}

pub reached_later : {A : Type 0} (app : Meaning A) (from on to : A) → IsReached app from on → IsReached app on to → IsReached app from to
reached_later {A} app from on to first second = record {
  log = first.log ++ second.log;
  valid = all_append IsValidRecord first.log second.log first.valid second.valid;
  is = second.is ∙ (ap (λ (s : A). fold_of app.next s second.log) first.is ∙ sym (fold_of_append app.next from first.log second.log));
}

-- so it is from a later state on
pub fit_later : {A : Type 0} (app : Meaning A) (from on : A) → IsReached app from on → OutputsFitFrom app from → OutputsFitFrom app on
fit_later app from on first fit state rec reached valid = fit state rec (reached_later app from on state first reached) valid
