-- A home's covered part ends where the next home begins, and the next one's records stand past what was covered then.
use Rattle.std.proofs.Common.{◌≡◌, ◌⊎◌, ◌∙◌, ℕ, ◌-◌, ◌≤◌, List, [], ◌∷◌, ◌++◌, length, Some, Contains, refl, sym, ap, subst, inl, inr, arith}
use Rattle.std.specs.List.{slice_get, range_with_len}
use Rattle.std.proofs.lemmas.Bool.{cases_lt, both_ways}
use Rattle.std.proofs.lemmas.List.{length-append}
use Rattle.std.proofs.lemmas.List.Elements.{Contains-append_right}
use Rattle.std.proofs.lemmas.Option.{slice_get_within}
use Rattle.fix_ante.proofs.Entries.{slice_get_append_left}
use Rattle.majority.proofs.Lists.{Contains_here}
use Rattle.cut_core.specs.Map.{covered_locals}
use Rattle.msg_wire.specs.Nodes.{same_node}
use Rattle.msg_wire.specs.Valid.{IsValidConfig}
use Rattle.net_model.specs.Pasts.{Past}
use Rattle.runs.specs.Names.{Config, Entry, HistoryEntry}
use Rattle.runs.specs.Names.nodes
use Rattle.runs.specs.Names.sides
use Rattle.runs.specs.Names.records
use Rattle.runs.specs.Runs.{IsPastOf}
use Rattle.runs.specs.Known.{agreed_after, known_at, held_log}
use Rattle.runs.specs.Maps.{WasKnown}
use Rattle.runs.specs.Marks.{IsPrefix, log_by, numbers_of_client}
use Rattle.runs.specs.Homes.{Home, homes_at, EndsWhereNextBegins, HomesEndWhereTheNextBegins, HasRecordOf, LaterHomesBeginLater, ClientsHold}
use Rattle.runs.proofs.SameNodes.{same_node_is}
use Rattle.safety_frame.specs.AgreedList.{agreed_list}
use Rattle.safety_frame.specs.EveryRun.{OfEveryRun}
use Rattle.safety_frame.proofs.Pasts.{other_stored, known_grows}
use Rattle.safety_frame.proofs.Lists.{begins_itself, begins_on, begins_more}
use Rattle.safety_logs.proofs.AgreedLists.{shorter, agreed_begins}
use Rattle.safety_logs.proofs.CoveredLogs.{covered_is_common}
use Rattle.safety_logs.proofs.Growing.{held_grows}
use Rattle.safety_clients.proofs.KnownEnds.{agreed_known, same_end, known_end_held}
use Rattle.safety_clients.proofs.Chains.{EachNext, next_in, at_end}
use Rattle.safety_clients.proofs.Fates.{held_stays, fate_there}
use Rattle.safety_clients.proofs.Fronts.{both_begin, continues, ended, gone_stays}
use Rattle.safety_clients.proofs.Homes.{LeftIn, all_left, homes_are_once}
use Rattle.safety_clients.proofs.Chains.{member_at}
use Rattle.safety_clients.proofs.Homes.{same_first}
use Rattle.safety_clients.proofs.Telling.{one_first_per_shard}
use Rattle.safety_clients.proofs.Records.{held_are_of_a_home}
use Rattle.safety_clients.proofs.Numbered.{has_number}
use Rattle.safety_clients.proofs.Turns.{MovesHome, every_turn}

module _ (cfg : Config) (valid : IsValidConfig cfg) where
  -- ---- where a home ends

  ends_stay : (e : HistoryEntry) (past : Past) (client : ℕ) (earlier later : Home) → IsPastOf cfg (e ∷ past)
      → EndsWhereNextBegins cfg client past earlier later → EndsWhereNextBegins cfg client (e ∷ past) earlier later
  ends_stay e past client earlier later run is =
      let now = e ∷ past in
      let node = nodes.Client client in
      let known = known_at cfg node past in
      let longer = known_at cfg node now in
      let on = continues cfg valid now run known longer (known_grows cfg node e past) (node, begins_itself longer) in
      let within = known_end_held cfg valid past run.1 node earlier.shard is.end is.gone in
      record {
        end = is.end;
        gone = on.gone_stay earlier.shard is.end is.gone;
        rises = is.rises;
        numbers = ap (numbers_of_client client) (held_stays cfg e past valid run earlier.shard is.end within) ∙ is.numbers;
      }

  ends_there : (e : HistoryEntry) (past : Past) (client : ℕ) → IsPastOf cfg (e ∷ past) → (m : MovesHome cfg client e past)
      → EndsWhereNextBegins cfg client past m.earlier m.later
  ends_there e past client run m =
      let node = nodes.Client client in
      let homes = homes_at cfg client past in
      let fate =
      fate_there cfg valid past run.1 client m.earlier.shard m.later.first m.told.message m.told.there m.side m.told.by m.told.to_it
      m.told.says in
      let there : Contains homes m.earlier =
      subst (λ l. Contains l m.earlier) (sym m.was) (Contains-append_right m.before (m.earlier ∷ []) m.earlier (Contains_here m.earlier [])) in
      let first = same_first cfg valid past run.1 client (record { shard = m.earlier.shard; first = fate.first }) m.earlier fate.home there refl in
      let known = known_at cfg node past in
      let gone = ended cfg valid past run.1 known (node, begins_itself known) m.earlier.shard m.gone in
      let same = same_end cfg valid past run.1 node m.earlier.shard _ fate.end gone fate.gone in
      record {
        end = fate.end;
        gone = gone ∙ ap (λ k. Some k) same;
        rises = omega (arith, first, fate.rises);
        numbers = fate.numbers ∙ ap (λ f. range_with_len f (m.later.first - f)) first;
      }

  pub ends_next : (past : Past) → IsPastOf cfg past → (client : ℕ) → EachNext (EndsWhereNextBegins cfg client past) (homes_at cfg client past)
  ends_next =
      every_turn cfg valid (λ past client. EndsWhereNextBegins cfg client past)
      (record {
        stays = ends_stay;
        moved = λ e past client run m. ends_stay e past client m.earlier m.later run (ends_there e past client run m);
      })

  -- ---- where the next one begins

  -- past what is covered by these entries
  abbrev pub BeginsPast : Past → ℕ → List Entry → ℕ → Type 0
  BeginsPast past client front shard = (local : ℕ) → HasRecordOf cfg client past shard local → covered_locals (agreed_after cfg front) shard ≤ local

  -- a shard to which the client moves has no record of it
  none_yet : (e : HistoryEntry) (past : Past) (client : ℕ) → IsPastOf cfg (e ∷ past) → (m : MovesHome cfg client e past) → (local : ℕ)
      → HasRecordOf cfg client (e ∷ past) m.later.shard local → ⊥
  none_yet e past client run m local has =
      let shard = m.later.shard in
      let node = nodes.Shard shard sides.Backup in
      let other = ap (λ x. same_node x node) (same_node_is e.node (nodes.Client client) m.own) in
      let log = held_log cfg shard past in
      let at : slice_get log local ≡ Some (records.Data client has.0 has.1) =
      ap (λ l. slice_get (log_by l) local) (sym (other_stored cfg node e past other)) ∙ has.2 in
      let homes = homes_at cfg client past in
      elim (held_are_of_a_home cfg past valid run.1 client shard).of_home [
        | inl none ↦ has_number client has.0 has.1 log local at none
        | inr home ↦
            let old : Home = record { shard = shard; first = home.0 } in
            let one = member_at homes old home.1 in
            let below = slice_get_within homes one.0 old one.1 in
            let first = ap (λ l. slice_get l one.0) m.now ∙ (slice_get_append_left homes (m.later ∷ []) one.0 below ∙ one.1) in
            let last = ap (λ l. slice_get l (length homes)) m.now ∙ at_end homes m.later in
            let same = (homes_are_once cfg (e ∷ past) valid run client).once one.0 (length homes) old m.later first last refl in
            omega (arith, same, below)
      ]

  begins_stay : (e : HistoryEntry) (past : Past) (client : ℕ) (front : List Entry) (shard : ℕ) → IsPastOf cfg (e ∷ past)
      → IsPrefix front (known_at cfg (nodes.Client client) past)
      → BeginsPast past client front shard → BeginsPast (e ∷ past) client front shard
  begins_stay e past client front shard run p before local has =
      let node = nodes.Client client in
      let log = held_log cfg shard past in
      let agreed = agreed_list cfg past in
      elim (cases_lt local (length log)) [
        | inl old ↦
            let grown = (held_grows cfg e past shard valid run).held in
            let at = sym (slice_get_append_left log grown.0 local old) ∙ (ap (λ l. slice_get l local) (sym grown.1) ∙ has.2) in
            before local (has.0, has.1, at)
        | inr new ↦
            let held = (covered_is_common cfg past valid run.1 shard).within in
            let begins = begins_on front (known_at cfg node past) agreed p (agreed_begins cfg valid past run.1 node) in
            let more = (continues cfg valid past run.1 front agreed begins (agreed_known cfg valid past run.1)).locals_grow shard in
            omega (arith, held, more, new)
      ]

  pub left_past : (past : Past) → IsPastOf cfg past → (client : ℕ) → EachNext (LeftIn cfg valid BeginsPast past client) (homes_at cfg client past)
  left_past =
      all_left cfg valid BeginsPast
      (record {
        starts = λ e past client run m local has. absurd (none_yet e past client run m local has);
        stays = begins_stay;
      })

-- a beginning of a list with one more entry begins the list, or it is the whole
front_or_all : {A : Type 0} (front before : List A) (x : A) → IsPrefix front (before ++ x ∷ []) → IsPrefix front before ⊎ IsPrefix (before ++ x ∷ []) front
front_or_all front before x p =
    let whole = before ++ x ∷ [] in
    elim (cases_lt (length before) (length front)) [
      | inl all ↦ inr (shorter whole front whole (begins_itself whole) p (omega (arith, all, length-append before (x ∷ []))))
      | inr short ↦ inl (shorter front before whole p (begins_more before (x ∷ [])) short)
    ]

-- ---- the laws

pub homes_end_where_the_next_begins : OfEveryRun HomesEndWhereTheNextBegins
homes_end_where_the_next_begins cfg past valid run client earlier later turn =
    next_in (EndsWhereNextBegins cfg client past) (homes_at cfg client past) turn.0 earlier later (ends_next cfg valid past run client) turn.1

pub later_homes_begin_later : OfEveryRun LaterHomesBeginLater
later_homes_begin_later cfg past valid run client earlier later before entry local turn goes has =
    let node = nodes.Client client in
    let known = known_at cfg node past in
    let with_it = before ++ entry ∷ [] in
    let left =
    next_in (LeftIn cfg valid (BeginsPast cfg valid) past client) (homes_at cfg client past) turn.0 earlier later
    (left_past cfg valid past run client) turn.1 in
    let front = left.at.0 in
    let begins = left.begins local has in
    let within : IsPrefix with_it front → covered_locals (agreed_after cfg with_it) later.shard ≤ local =
    λ p. omega (arith, begins, (continues cfg valid past run with_it front p (node, left.at.1)).locals_grow later.shard) in
    elim (both_begin with_it front known goes.known left.at.1) [
      | inl p ↦ within p
      | inr p ↦ elim (front_or_all front before entry p) [
        | inr q ↦ within q
        | inl q ↦
            let was : WasKnown cfg past before = (node, begins_on before with_it known (begins_more before (entry ∷ [])) goes.known) in
            absurd (both_ways _ goes.there (gone_stays cfg valid past run front before q was earlier.shard left.left))
      ]
    ]

pub clients_hold : OfEveryRun ClientsHold
clients_hold cfg past valid run = record {
  one_first = one_first_per_shard cfg past valid run;
  homes_end = homes_end_where_the_next_begins cfg past valid run;
  homes_begin = later_homes_begin_later cfg past valid run;
}
