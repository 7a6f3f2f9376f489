-- A client's homes: each once, each left when it was gone, for one that wasn't gone there.
use Rattle.std.proofs.Common.{◌≡◌, ◌∙◌, ℕ, ◌≤◌, List, [], ◌∷◌, ◌++◌, Contains, sym, ap, subst, inl, inr, arith}
use Rattle.std.proofs.lemmas.Bool.{cases_Bool, both_ways}
use Rattle.std.proofs.lemmas.List.Elements.{Contains-append_right}
use Rattle.std.proofs.lemmas.Option.{same_Some}
use Rattle.std.specs.List.{slice_get}
use Rattle.majority.proofs.Lists.{Contains_here}
use Rattle.cut_core.specs.Agreements.{is_gone}
use Rattle.msg_wire.specs.Valid.{IsValidConfig}
use Rattle.net_model.specs.Pasts.{Past}
use Rattle.runs.specs.Names.{Config, Entry, HistoryEntry}
use Rattle.runs.specs.Names.nodes
use Rattle.runs.specs.Runs.{IsPastOf}
use Rattle.runs.specs.Known.{agreed_after, known_at}
use Rattle.runs.specs.Marks.{IsPrefix}
use Rattle.runs.specs.Homes.{Home, homes_at, AreInTurn}
use Rattle.safety_frame.specs.EveryRun.{OfEveryRun}
use Rattle.safety_frame.proofs.Pasts.{known_grows}
use Rattle.safety_frame.proofs.Lists.{begins_on}
use Rattle.safety_clients.specs.Homes.{HomesAreOnce, IsLeftFor, HomesAreLeftWhenGone, HomesGoInTurn}
use Rattle.safety_clients.proofs.Chains.{member_at, EachNext, next_in, AreLeft, goes_in_turn, never_again}
use Rattle.safety_clients.proofs.Fronts.{Front, gone_in, ordered, gone_stays, goes_in}
use Rattle.safety_clients.proofs.Turns.{MovesHome, every_turn, are_acked}

-- ---- a home is left when it is gone by what the client knows, and the next one isn't

module _ (cfg : Config) (valid : IsValidConfig cfg) (Begins : Past → ℕ → List Entry → ℕ → Type 0) where
  -- what is known of the later home, of what the client knew as it moved
  abbrev pub BeginsIn : (past : Past) (client : ℕ) → Front cfg (nodes.Client client) past → ℕ → Type 0
  BeginsIn past client front shard = Begins past client front.0 shard

  abbrev pub LeftIn : Past → ℕ → Home → Home → Type 0
  LeftIn past client = AreLeft (gone_in cfg (nodes.Client client) past) (BeginsIn past client)

  pub record KeepsBegins : Type 0 where
    pub starts : (e : HistoryEntry) (past : Past) (client : ℕ) → IsPastOf cfg (e ∷ past) → (m : MovesHome cfg client e past)
        → Begins (e ∷ past) client (known_at cfg (nodes.Client client) past) m.later.shard
    pub stays : (e : HistoryEntry) (past : Past) (client : ℕ) (front : List Entry) (shard : ℕ) → IsPastOf cfg (e ∷ past)
        → IsPrefix front (known_at cfg (nodes.Client client) past)
        → Begins past client front shard → Begins (e ∷ past) client front shard

  pub all_left : KeepsBegins → (past : Past) → IsPastOf cfg past → (client : ℕ) → EachNext (LeftIn past client) (homes_at cfg client past)
  all_left keeps =
      every_turn cfg valid LeftIn
      (record {
        stays = λ e past client earlier later run left.
            let node = nodes.Client client in
            record {
              at = (left.at.0, begins_on left.at.0 (known_at cfg node past) (known_at cfg node (e ∷ past)) left.at.1 (known_grows cfg node e past));
              left = left.left;
              there = left.there;
              begins = keeps.stays e past client left.at.0 later.shard run left.at.1 left.begins;
            };
        moved = λ e past client run m.
            record {
              at = (known_at cfg (nodes.Client client) past, known_grows cfg (nodes.Client client) e past);
              left = m.gone;
              there = m.free;
              begins = keeps.starts e past client run m;
            };
      })

-- ---- the clauses

abbrev Anyhow : Past → ℕ → List Entry → ℕ → Type 0
Anyhow past client front shard = Unit {0}

module _ (cfg : Config) (valid : IsValidConfig cfg) (past : Past) (run : IsPastOf cfg past) (client : ℕ) where
  left_when_gone : EachNext (LeftIn cfg valid Anyhow past client) (homes_at cfg client past)
  left_when_gone =
      all_left cfg valid Anyhow (record { starts = λ e past client run m. tt; stays = λ e past client front shard run p was. tt }) past run client

  left_for : (earlier later : Home) → LeftIn cfg valid Anyhow past client earlier later → IsLeftFor cfg client past earlier later
  left_for earlier later left =
      let node = nodes.Client client in
      let front = left.at.0 in
      let goes = goes_in cfg earlier.shard front left.left in
      let with_it = goes.before ++ goes.entry ∷ [] in
      record {
        before = goes.before;
        entry = goes.entry;
        goes = record { known = begins_on with_it front (known_at cfg node past) goes.begins left.at.1; there = goes.there; gone = goes.gone };
        there = elim (cases_Bool (is_gone (agreed_after cfg with_it) later.shard)) [
          | inl gone ↦ absurd (both_ways _ left.there (gone_stays cfg valid past run with_it front goes.begins (node, left.at.1) later.shard gone))
          | inr there ↦ there
        ];
      }

  left_in : (earlier later : Home) → AreInTurn cfg client past earlier later → LeftIn cfg valid Anyhow past client earlier later
  left_in earlier later turn = next_in (LeftIn cfg valid Anyhow past client) (homes_at cfg client past) turn.0 earlier later left_when_gone turn.1

pub homes_are_left_when_gone : OfEveryRun HomesAreLeftWhenGone
homes_are_left_when_gone cfg past valid run client earlier later turn =
    left_for cfg valid past run client earlier later (left_in cfg valid past run client earlier later turn)

pub homes_go_in_turn : OfEveryRun HomesGoInTurn
homes_go_in_turn cfg past valid run client earlier later known turn p gone =
    let node = nodes.Client client in
    goes_in_turn (gone_in cfg node past) (BeginsIn cfg valid Anyhow past client) (ordered cfg valid past run node) earlier.shard later.shard
    (left_in cfg valid past run client earlier later turn) (known, p) gone

-- ---- first numbers

pub rising : (cfg : Config) (valid : IsValidConfig cfg) (past : Past) → IsPastOf cfg past → (client : ℕ)
    → EachNext (λ (h k : Home). h.first ≤ k.first) (homes_at cfg client past)
rising cfg valid =
    every_turn cfg valid (λ past client h k. h.first ≤ k.first)
    (record {
      stays = λ e past client h k run le. le;
      moved = λ e past client run m.
          let there = subst (λ l. Contains l m.earlier) (sym m.was) (Contains-append_right m.before (m.earlier ∷ []) m.earlier (Contains_here m.earlier [])) in
          omega (arith, m.acked, are_acked cfg valid past run.1 client m.earlier there);
    })

pub homes_are_once : OfEveryRun HomesAreOnce
homes_are_once cfg past valid run client = record {
  once =
      never_again (gone_in cfg (nodes.Client client) past) (BeginsIn cfg valid Anyhow past client) (ordered cfg valid past run (nodes.Client client))
      (homes_at cfg client past) (left_when_gone cfg valid past run client);
  rise = λ earlier later turn.
      next_in (λ (h k : Home). h.first ≤ k.first) (homes_at cfg client past) turn.0 earlier later (rising cfg valid past run client) turn.1;
  acked = are_acked cfg valid past run client;
}

-- ---- one first number at a home

pub same_first : (cfg : Config) (valid : IsValidConfig cfg) (past : Past) → IsPastOf cfg past → (client : ℕ) (home other : Home)
    → Contains (homes_at cfg client past) home
    → Contains (homes_at cfg client past) other → home.shard ≡ other.shard → home.first ≡ other.first
same_first cfg valid past run client home other here there same =
    let one = member_at (homes_at cfg client past) home here in
    let two = member_at (homes_at cfg client past) other there in
    let at = (homes_are_once cfg past valid run client).once one.0 two.0 home other one.1 two.1 same in
    ap (λ (h : Home). h.first) (same_Some home other (sym one.1 ∙ (ap (slice_get (homes_at cfg client past)) at ∙ two.1)))
