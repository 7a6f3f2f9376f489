-- What a consumer's table asks of an application.
use Rattle.std.specs.Prelude.{ℕ, List}
use Rattle.app_law.specs.declared.any_app.AnyApp.{AnyApp}
use Rattle.app_law.specs.AnyApps.{any_fresh, any_next, any_output}
use Rattle.node_rules.specs.Names.{Record, AppKind}

-- its state before any record, its state after one more, and what it writes for one
pub record Meaning (A : Type 0) : Type 0 where
  pub fresh : AppKind → A
  pub next : A → Record → A
  pub output : A → Record → List ℕ

-- that of the application of any kind
abbrev pub any_meaning : Meaning AnyApp
any_meaning = record { fresh = any_fresh; next = any_next; output = any_output }

-- that of an application, of its members
abbrev pub meaning : {A : Type 0} → (AppKind → A) → (A → Record → A) → (A → Record → List ℕ) → Meaning A
meaning fresh next output = record { fresh = fresh; next = next; output = output }
