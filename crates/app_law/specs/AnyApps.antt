-- The application of any kind: each of its parts is that of the kind.
use Rattle.std.specs.Prelude.{ℕ, List, replicate, ◌≡◌, refl, []}
use Rattle.std.specs.FinMap as entries
use Rattle.record_codec.specs.declared.record.Record.{Record}
use Rattle.record_codec.specs.declared.record.Record.TheVariants.{Noop}
use Rattle.record_codec.specs.declared.app_kind.AppKind.{AppKind}
use Rattle.record_codec.specs.declared.app_kind.AppKind.TheVariants as kinds
use Rattle.app_law.specs.declared.any_app.AnyApp.{AnyApp}
use Rattle.app_law.specs.declared.any_app.AnyApp.TheVariants.{Tally, Bank, Kv}
use Rattle.app_law.specs.declared.any_app.AnyUndo.{AnyUndo}
use Rattle.app_law.specs.declared.any_app.AnyUndo.TheVariants as undos
use Rattle.app_law.specs.Tallies.{tally_next, tally_output, tally_shown}
use Rattle.app_law.specs.Banks.{bank_next, bank_output, bank_shown}
use Rattle.app_law.specs.Kvs.{kv_next, kv_output, kv_shown, kv_restored}

-- the fresh state of the application of this kind
abbrev pub any_fresh : AppKind → AnyApp
any_fresh kinds.Tally = Tally (record { total = 0; added = 0 })
any_fresh kinds.Bank = Bank (replicate 8 0)
any_fresh kinds.Kv = Kv entries.empty

abbrev pub any_next : AnyApp → Record → AnyApp
any_next (Tally t) r = Tally (tally_next t r)
any_next (Bank b) r = Bank (bank_next b r)
any_next (Kv kv) r = Kv (kv_next kv r)

abbrev pub any_output : AnyApp → Record → List ℕ
any_output (Tally t) r = tally_output t r
any_output (Bank b) r = bank_output b r
any_output (Kv kv) r = kv_output kv r

abbrev pub any_shown : AnyApp → List ℕ
any_shown (Tally t) = tally_shown t
any_shown (Bank b) = bank_shown b
any_shown (Kv kv) = kv_shown kv

-- an undo of another application changes nothing
abbrev pub any_restored : AnyUndo → AnyApp → AnyApp
any_restored (undos.Tally before) (Tally _) = Tally before
any_restored (undos.Bank before) (Bank _) = Bank before
any_restored (undos.Kv undo) (Kv kv) = Kv (kv_restored undo kv)
any_restored _ app = app

-- a record that fills a place leaves each of them, and gives nothing
pub any_next_noop : (app : AnyApp) → any_next app Noop ≡ app
any_next_noop (Tally t) = refl
any_next_noop (Bank b) = refl
any_next_noop (Kv kv) = refl

pub any_output_noop : (app : AnyApp) → any_output app Noop ≡ []
any_output_noop (Tally t) = refl
any_output_noop (Bank b) = refl
any_output_noop (Kv kv) = refl
