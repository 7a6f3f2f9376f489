-- A crew stays at its places: as one member changes, and as all take turns.
use Rattle.std.proofs.Common.{◌≡◌, None, ℕ, zero, suc, ◌<◌, List, [], ◌∷◌, map, length, get_or, set, refl, sym, ap, ◌∙◌}
use Rattle.std.proofs.Common.{subst, arith, slice_get, IsSomeAnd, Result, Ok, Err, OnOk, OnErr, take, drop, ◌+◌, Bool, true, false, IsTrue, IsFalse, Vec}
use Rattle.std.specs.List.{All, AllByRecursion, AllZip}
use Rattle.std.specs.Vec.{with_items}
use Rattle.std.proofs.lemmas.List.{with_items_is, length-map}
use Rattle.std.proofs.lemmas.List.Elements.{All-from_recursion}
use Rattle.submit_desk.specs.Passes.{DeskView, PassView}
use Rattle.spec_base.specs.declared.disk.Disk.{Ghosts as DiskRules}
use Rattle.net_model.specs.Names.{NodeId}
use Rattle.net_model.specs.declared.model.NodeModel.{Ghosts as NodeRules}
use Rattle.node_actor.specs.declared.actor.NodeActor.{NodeActor}
use Rattle.node_seats.specs.Seats.{AreSeated, IsSeated}
use Rattle.cluster_users.specs.Reading.{Reading, GoesOn, Reads}
use Rattle.cluster_users.specs.Submitting.{Submitting, HasDesk, Submits}
use Rattle.cluster_crew.specs.declared.member.Member.{Member}
use Rattle.cluster_crew.specs.Posts.{Post, IsMemberAt, IsFaultless, AtDesk, Stays, CanAct, CanTurn}
use Rattle.cluster_crew.specs.Watching.{AllStay, Watch, WatchesPosts, IsReaderAt, IsWatchedBy, StaysReader, Source, IsSubmitterAt, SourceAtDesk}
use Rattle.cluster_crew.specs.Crews.{AreAt, AreFaultless, NoneStopped, MembersStay, CanJoin, CanGather, IsWatching}
use Rattle.cluster_crew.specs.Crews.{AreWatching, IsCrewAt, CrewStays, CanFollow, HaveNoEpisode, OnlyAt, Places, StaysUnless, is_episode}
use Rattle.cluster_crew.specs.Ending.{IsActorOf, ReturnsTo, seats_of}
use Rattle.cluster_crew.specs.declared.crew.Crew.{Crew}
use Rattle.msg_wire.specs.declared.plan.Plan.{Plan}
use Rattle.msg_wire.specs.declared.plan.PlanLine.{PlanLine}
use Rattle.cluster_crew.proofs.Following.{drop_none}
use Rattle.cluster_crew.proofs.Lists.{zip_at, zip_length, zip_set, stay_set, stay_each, all_at, all_set, all_each, taken_set}

-- ---- members

long : (watches : List Watch) (consumers : List ℕ) → map (λ (w : Watch). w.consumer) watches ≡ consumers → length watches ≡ length consumers
long [] consumers is = ap length is
long (w ∷ watches) consumers is = ap suc (long watches (map (λ (v : Watch). v.consumer) watches) refl) ∙ ap length is

module _ {N D P : Type 0} (rules : NodeRules N) (disk : DiskRules D) where
  pub members_itself : (ms : List (Member N D P)) → MembersStay rules disk ms ms
  members_itself ms = record { at = λ posts at. at; faultless = λ none. none }

  pub members_then : (xs bs cs : List (Member N D P)) → MembersStay rules disk xs bs → MembersStay rules disk bs cs → MembersStay rules disk xs cs
  members_then xs bs cs first second = record {
    at = λ posts at. second.at posts (first.at posts at);
    faultless = λ none. second.faultless (first.faultless none);
  }

  -- one member more has changed
  pub members_set : (before ms : List (Member N D P)) (k : ℕ) (d m : Member N D P) → MembersStay rules disk before ms → Stays rules disk (get_or ms k d) m
      → MembersStay rules disk before (set ms k m)
  members_set before ms k d m stay one = record {
    at = stay_set (IsMemberAt rules disk) before ms k d m stay.at one.at;
    faultless = λ none. all_set IsFaultless ms k d m one.faultless (stay.faultless none);
  }

  -- members of whom all were at posts: each is at one
  pub one_acts : (before ms : List (Member N D P)) (k : ℕ) (d : Member N D P) → ((posts : List Post) × AreAt rules disk posts before)
      → MembersStay rules disk before ms
      → k < length ms → CanAct rules disk (get_or ms k d)
  one_acts before ms k d (posts, at) stay within = zip_at (IsMemberAt rules disk) posts ms k d (stay.at posts at) within

  turn_at : (desks : List DeskView) (posts : List Post) (ms : List (Member N D P)) (k : ℕ) (d : Member N D P) → AreAt rules disk posts ms
      → AllByRecursion (AtDesk desks) posts → k < length ms → CanTurn rules disk desks (get_or ms k d)
  turn_at desks [] [] k d at all within = absurd (omega (arith, within))
  turn_at desks [] (m ∷ ms) k d at all within = absurd at
  turn_at desks (p ∷ posts) [] k d at all within = absurd at
  turn_at desks (p ∷ posts) (m ∷ ms) zero d at all within = (p, at.0, all.0)
  turn_at desks (p ∷ posts) (m ∷ ms) (suc k) d at all within = turn_at desks posts ms k d at.1 all.1 (omega (arith, within))

  -- with desks: each can take turns
  pub one_turns : (desks : List DeskView) (before ms : List (Member N D P)) (k : ℕ) (d : Member N D P) → CanJoin rules disk desks before
      → MembersStay rules disk before ms → k < length ms → CanTurn rules disk desks (get_or ms k d)
  one_turns desks before ms k d (posts, at, all) stay within = turn_at desks posts ms k d (stay.at posts at) all within

  pub joins_on : (desks : List DeskView) (before ms : List (Member N D P)) → CanJoin rules disk desks before → MembersStay rules disk before ms
      → CanJoin rules disk desks ms
  joins_on desks before ms (posts, at, all) stay = (posts, stay.at posts at, all)

  all_turn : (desks : List DeskView) (posts : List Post) (ms : List (Member N D P)) → AreAt rules disk posts ms → AllByRecursion (AtDesk desks) posts
      → AllByRecursion (CanTurn rules disk desks) ms
  all_turn desks [] [] at all = tt
  all_turn desks [] (m ∷ ms) at all = absurd at
  all_turn desks (p ∷ posts) [] at all = absurd at
  all_turn desks (p ∷ posts) (m ∷ ms) at all = ((p, at.0, all.0), all_turn desks posts ms at.1 all.1)

  pub members_ready : (desks : List DeskView) (posts : List Post) (ms : List (Member N D P)) → AreAt rules disk posts ms → AllByRecursion (AtDesk desks) posts
      → All (CanTurn rules disk desks) ms
  members_ready desks posts ms at all = All-from_recursion (CanTurn rules disk desks) ms (all_turn desks posts ms at all)

  -- all took turns
  pub members_each : (before after : List (Member N D P)) → AllZip (Stays rules disk) before after → MembersStay rules disk before after
  members_each before after all = record {
    at = stay_each (IsMemberAt rules disk) before after (Stays rules disk) (λ b c stays. stays.at) all;
    faultless = λ none. all_each IsFaultless before after (Stays rules disk) (λ b c stays. stays.faultless) all none;
  }

  -- one more of the first has no faults any more
  pub ended_set : (ms : List (Member N D P)) (k : ℕ) (m : Member N D P) → k < length ms → AreFaultless (take k ms) → IsFaultless m
      → AreFaultless (take (k + 1) (set ms k m))
  ended_set ms k m within ended one = taken_set IsFaultless ms k m within ended one

  -- ---- a reader among members

  watch_at : (consumer : ℕ) (watch : Watch) (posts : List Post) (ms : List (Member N D P)) (reader : Reading) (k : ℕ) (d : Member N D P)
      → AreAt rules disk posts ms
      → IsReaderAt watch reader → WatchesPosts posts watch → watch.consumer ≡ consumer → k < length ms → IsWatchedBy rules disk consumer (get_or ms k d) reader
  watch_at consumer watch [] [] reader k d at seen all is within = absurd (omega (arith, within))
  watch_at consumer watch [] (m ∷ ms) reader k d at seen all is within = absurd at
  watch_at consumer watch (p ∷ posts) [] reader k d at seen all is within = absurd at
  watch_at consumer watch (p ∷ posts) (m ∷ ms) reader zero d at seen all is within = (p, watch, at.0, seen, all.0, is)
  watch_at consumer watch (p ∷ posts) (m ∷ ms) reader (suc k) d at seen all is within =
      watch_at consumer watch posts ms reader k d at.1 seen all.1 is (omega (arith, within))

  -- it may be any of them
  pub one_watched : (consumer : ℕ) (before ms : List (Member N D P)) (r s : Reading) (k : ℕ) (d : Member N D P) → IsWatching rules disk consumer before r
      → MembersStay rules disk before ms → StaysReader r s → k < length ms → IsWatchedBy rules disk consumer (get_or ms k d) s
  one_watched consumer before ms r s k d (posts, watch, at, seen, all, is) stay stays within =
      watch_at consumer watch posts ms s k d (stay.at posts at) (stays watch seen) all is within

  watching_at : (posts : List Post) (watches : List Watch) (consumers : List ℕ) (ms : List (Member N D P)) (readers : List Reading) (k : ℕ)
      (d : Reading) (n : ℕ)
      → AreAt rules disk posts ms → AllZip IsReaderAt watches readers → AllByRecursion (WatchesPosts posts) watches
      → map (λ (w : Watch). w.consumer) watches ≡ consumers → k < length readers → IsWatching rules disk (get_or consumers k n) ms (get_or readers k d)
  watching_at posts [] consumers ms [] k d n at seen all is within = absurd (omega (arith, within))
  watching_at posts [] consumers ms (r ∷ readers) k d n at seen all is within = absurd seen
  watching_at posts (w ∷ watches) consumers ms [] k d n at seen all is within = absurd seen
  watching_at posts (w ∷ watches) consumers ms (r ∷ readers) zero d n at seen all is within =
      (posts, w, at, seen.0, all.0, ap (λ l. get_or l zero n) is)
  watching_at posts (w ∷ watches) consumers ms (r ∷ readers) (suc k) d n at seen all is within =
      subst (λ l. IsWatching rules disk (get_or l (suc k) n) ms (get_or readers k d)) is
      (watching_at posts watches (map (λ (v : Watch). v.consumer) watches) ms readers k d n at seen.1 all.1 refl (omega (arith, within)))

  -- each reader watches its consumer
  pub one_watching : (consumers : List ℕ) (before ms : List (Member N D P)) (rs readers : List Reading) (k : ℕ) (d : Reading) (n : ℕ)
      → AreWatching rules disk consumers before rs → MembersStay rules disk before ms → AllStay IsReaderAt rs readers → k < length readers
      → IsWatching rules disk (get_or consumers k n) ms (get_or readers k d)
  one_watching consumers before ms rs readers k d n (posts, watches, at, seen, all, is) stay stays within =
      watching_at posts watches consumers ms readers k d n (stay.at posts at) (stays watches seen) all is within

  -- there are as many
  pub as_many : (consumers : List ℕ) (before : List (Member N D P)) (rs readers : List Reading) → AreWatching rules disk consumers before rs
      → AllStay IsReaderAt rs readers → length readers ≡ length consumers
  as_many consumers before rs readers (posts, watches, at, seen, all, is) stays =
      sym (zip_length IsReaderAt watches readers (stays watches seen)) ∙ long watches consumers is

  -- ---- what is left

  pub seated_each : (posts : List Post) (ms : List (Member N D P)) (actors : List (NodeActor N D)) → AreAt rules disk posts ms → AllZip IsActorOf ms actors
      → AreSeated rules disk (seats_of posts) actors
  seated_each [] [] [] at of = tt
  seated_each [] [] (a ∷ actors) at of = absurd of
  seated_each [] (m ∷ ms) actors at of = absurd at
  seated_each (p ∷ posts) [] actors at of = absurd at
  seated_each (p ∷ posts) (m ∷ ms) [] at of = absurd of
  seated_each (p ∷ posts) (m ∷ ms) (a ∷ actors) at of =
      (subst (IsSeated rules disk p.seat) (sym of.0) at.0.seated, seated_each posts ms actors at.1 of.1)

-- ---- readers and submitters

pub reader_on : (before after : Reading) → GoesOn before after → StaysReader before after
reader_on before after on = λ watch at. (on.same.0 ∙ at.0, on.same.1 ∙ at.1, on.same.2 ∙ at.2)

pub readers_each : (turns : ℕ) (before after : List Reading) → AllZip (Reads turns) before after → AllStay IsReaderAt before after
readers_each turns before after all = stay_each IsReaderAt before after (Reads turns) (λ b c reads. reader_on b c reads.goes_on) all

submitter_on : (turns : ℕ) (before after : Submitting) → Submits turns before after → (source : Source) → IsSubmitterAt source before
    → IsSubmitterAt source after
submitter_on turns before after on source at = (on.same.0 ∙ at.0, on.same.1 ∙ at.1, on.same.2 ∙ at.2, on.bodies ∙ at.3)

pub submitters_each : (turns : ℕ) (before after : List Submitting) → AllZip (Submits turns) before after → AllStay IsSubmitterAt before after
submitters_each turns before after all = stay_each IsSubmitterAt before after (Submits turns) (submitter_on turns) all

has_desk : (desks : List DeskView) (source : Source) (s : Submitting) → IsSubmitterAt source s → SourceAtDesk desks source → HasDesk desks s
has_desk desks source s at has =
    subst (λ n. IsSomeAnd (slice_get desks n) (λ (d : DeskView). d.desk ≡ s.desk)) (sym at.1)
    (subst (λ t. IsSomeAnd (slice_get desks source.client) (λ (d : DeskView). d.desk ≡ t)) (sym at.2) has)

all_have : (desks : List DeskView) (sources : List Source) (ss : List Submitting) → AllZip IsSubmitterAt sources ss
    → AllByRecursion (SourceAtDesk desks) sources
    → AllByRecursion (HasDesk desks) ss
all_have desks [] [] at all = tt
all_have desks [] (s ∷ ss) at all = absurd at
all_have desks (x ∷ sources) [] at all = absurd at
all_have desks (x ∷ sources) (s ∷ ss) at all = (has_desk desks x s at.0 all.0, all_have desks sources ss at.1 all.1)

pub submitters_ready : (desks : List DeskView) (sources : List Source) (ss : List Submitting) → AllZip IsSubmitterAt sources ss
    → AllByRecursion (SourceAtDesk desks) sources → All (HasDesk desks) ss
submitters_ready desks sources ss at all = All-from_recursion (HasDesk desks) ss (all_have desks sources ss at all)

pub one_stopped : {N D P : Type 0} (ms : List (Member N D P)) (k : ℕ) (d : Member N D P) → NoneStopped ms → k < length ms → (get_or ms k d).actor.stopped ≡ None
one_stopped ms k d none within = all_at (λ (m : Member _ _ _). m.actor.stopped ≡ None) ms k d none within

-- ---- an episode

module _ {N D P : Type 0} (rules : NodeRules N) (disk : DiskRules D) where
  pub crew_itself : (crew : Crew N D P) → CrewStays rules disk crew crew
  crew_itself crew = record { at = λ places at. at; faultless = λ none. none }

  pub crew_then : (a b c : Crew N D P) → CrewStays rules disk a b → CrewStays rules disk b c → CrewStays rules disk a c
  crew_then a b c first second = record {
    at = λ places at. second.at places (first.at places at);
    faultless = λ none. second.faultless (first.faultless none);
  }

  -- where its members, its readers and its submitters stay
  pub crew_of : (a b : Crew N D P) → MembersStay rules disk a.members.items b.members.items → AllStay IsReaderAt a.readers.items b.readers.items
      → AllStay IsSubmitterAt a.submitters.items b.submitters.items → CrewStays rules disk a b
  crew_of a b members readers submitters = record {
    at = λ places at. record {
      members = members.at places.posts at.members;
      readers = readers places.watches at.readers;
      submitters = submitters places.sources at.submitters;
    };
    faultless = members.faultless;
  }

  -- whether all took turns, or no one did
  pub episode_stays : {T E : Type 0} (result : Result T E) (turns : ℕ) (a b : Crew N D P)
      → OnOk result (AllZip (Stays rules disk) a.members.items b.members.items)
      → OnOk result (AllZip (Reads turns) a.readers.items b.readers.items) → OnOk result (AllZip (Submits turns) a.submitters.items b.submitters.items)
      → OnErr result ((b.members.items ≡ a.members.items) × (b.readers.items ≡ a.readers.items) × (b.submitters.items ≡ a.submitters.items))
      → CrewStays rules disk a b
  episode_stays (Ok done) turns a b first second third none =
      crew_of a b (members_each rules disk a.members.items b.members.items first) (readers_each turns a.readers.items b.readers.items second)
      (submitters_each turns a.submitters.items b.submitters.items third)
  episode_stays (Err e) turns a b first second third (same, rest, last) =
      crew_of a b (subst (MembersStay rules disk a.members.items) (sym same) (members_itself rules disk a.members.items))
      (subst (AllStay IsReaderAt a.readers.items) (sym rest) (λ xs at. at)) (subst (AllStay IsSubmitterAt a.submitters.items) (sym last) (λ xs at. at))

-- ---- submitters that give their passes back

drop_head : (xs : List ℕ) (k : ℕ) (y : ℕ) (ys : List ℕ) (d : ℕ) → y ∷ ys ≡ drop k xs → k < length xs
drop_head [] zero y ys d is = absurd cc
drop_head [] (suc k) y ys d is = absurd cc
drop_head (x ∷ xs) zero y ys d is = omega arith
drop_head (x ∷ xs) (suc k) y ys d is = let later = drop_head xs k y ys d is in omega (arith, later)

drop_first : (xs : List ℕ) (k : ℕ) (y : ℕ) (ys : List ℕ) (d : ℕ) → y ∷ ys ≡ drop k xs → y ≡ get_or xs k d
drop_first [] zero y ys d is = absurd cc
drop_first [] (suc k) y ys d is = absurd cc
drop_first (x ∷ xs) zero y ys d is = cc
drop_first (x ∷ xs) (suc k) y ys d is = drop_first xs k y ys d is

drop_rest : (xs : List ℕ) (k : ℕ) (y : ℕ) (ys : List ℕ) → y ∷ ys ≡ drop k xs → ys ≡ drop (suc k) xs
drop_rest [] zero y ys is = absurd cc
drop_rest [] (suc k) y ys is = absurd cc
drop_rest (x ∷ xs) zero y ys is = cc
drop_rest (x ∷ xs) (suc k) y ys is = drop_rest xs k y ys is

-- the next of them, and its client
module _ {N D P : Type 0} (rules : NodeRules N) (disk : DiskRules D) (desks : List DeskView) (clients : List ℕ) (k : ℕ) (ms : List (Member N D P))
    (items : List Submitting) (s : Submitting) (rest : List Submitting) (d : ℕ) where
  within_of : (sources : List Source) → AllZip IsSubmitterAt sources (s ∷ rest) → map (λ (x : Source). x.client) sources ≡ drop k clients → k < length clients
  within_of [] at is = absurd at
  within_of (x ∷ sources) at is = drop_head clients k x.client (map (λ (y : Source). y.client) sources) d is

  pub gather_within : items ≡ s ∷ rest → CanGather rules disk desks (drop k clients) ms items → k < length clients
  gather_within e (can, (sources, at, all, is)) = within_of sources (subst (AllZip IsSubmitterAt sources) e at) is

  returns_of : (pass : PassView) (sources : List Source) → AllZip IsSubmitterAt sources (s ∷ rest) → AllByRecursion (SourceAtDesk desks) sources
      → map (λ (x : Source). x.client) sources ≡ drop k clients → pass.knows.submits ≡ true → pass.desk ≡ s.desk → ReturnsTo desks (get_or clients k d) pass
  returns_of pass [] at all is submits own = absurd at
  returns_of pass (x ∷ sources) at all is submits own = (
    submits,
    subst (λ n. IsSomeAnd (slice_get desks n) (λ (v : DeskView). v.desk ≡ pass.desk))
        (drop_first clients k x.client (map (λ (y : Source). y.client) sources) d is)
        (subst (λ t. IsSomeAnd (slice_get desks x.client) (λ (v : DeskView). v.desk ≡ t)) (sym (own ∙ at.0.2)) all.0),
  )

  pub gather_pass : (pass : PassView) → items ≡ s ∷ rest → CanGather rules disk desks (drop k clients) ms items → pass.knows.submits ≡ true → pass.desk ≡ s.desk
      → ReturnsTo desks (get_or clients k d) pass
  gather_pass pass e (can, (sources, at, all, is)) submits own = returns_of pass sources (subst (AllZip IsSubmitterAt sources) e at) all is submits own

  rest_of : (ns : List (Member N D P)) (sources : List Source) → CanJoin rules disk desks ns → AllZip IsSubmitterAt sources (s ∷ rest)
      → AllByRecursion (SourceAtDesk desks) sources → map (λ (x : Source). x.client) sources ≡ drop k clients
      → CanGather rules disk desks (drop (k + 1) clients) ns rest
  rest_of ns [] can at all is = absurd at
  rest_of ns (x ∷ sources) can at all is =
      let next : suc k ≡ k + 1 = omega arith in
      (can, (sources, at.1, all.1, drop_rest clients k x.client (map (λ (y : Source). y.client) sources) is ∙ ap (λ n. drop n clients) next))

  pub gather_rest : (ns : List (Member N D P)) → items ≡ s ∷ rest → CanGather rules disk desks (drop k clients) ms items → MembersStay rules disk ms ns
      → CanGather rules disk desks (drop (k + 1) clients) ns rest
  gather_rest ns e (can, (sources, at, all, is)) stay =
      rest_of ns sources (joins_on rules disk desks ms ns can stay) (subst (AllZip IsSubmitterAt sources) e at) all is

pub gathers_join : {N D P : Type 0} (rules : NodeRules N) (disk : DiskRules D) (desks : List DeskView) (clients : List ℕ) (ms : List (Member N D P))
    (items : List Submitting) → CanGather rules disk desks clients ms items → CanJoin rules disk desks ms
gathers_join rules disk desks clients ms items (can, rest) = can

-- ---- lists that are written over in place

-- what holds of the elements before and after
pub written : {X Z : Type 0} (R : List X → List X → Type 0) (v : Vec X Z) (old new : List X) → old ≡ v.items → length new ≡ v.len → R old new
    → R v.items (with_items v new).items
written R v old new e len holds = subst (λ xs. R v.items xs) (sym (with_items_is v new len)) (subst (λ xs. R xs new) e holds)

pub rewritten : {X Z : Type 0} (P : List X → Type 0) (v : Vec X Z) (new : List X) → length new ≡ v.len → P new → P (with_items v new).items
rewritten P v new len holds = subst P (sym (with_items_is v new len)) holds

-- ---- a crew that follows a plan

module _ {N D P : Type 0} (rules : NodeRules N) (disk : DiskRules D) where
  pub follows_on : (plan : Plan) (desks : List DeskView) (a b : Crew N D P) → CanFollow rules disk plan desks a → CrewStays rules disk a b
      → CanFollow rules disk plan desks b
  follows_on plan desks a b (places, at, fits) stays = (places, stays.at places at, fits)

  pub gathers : (plan : Plan) (desks : List DeskView) (crew : Crew N D P) → CanFollow rules disk plan desks crew
      → CanGather rules disk desks plan.submitters crew.members.items crew.submitters.items
  gathers plan desks crew (places, at, fits) =
      ((places.posts, at.members, fits.desks_at), (places.sources, at.submitters, fits.sources_at, fits.submitters))

  -- there are as many submitters as the plan says
  pub submitters_count : (plan : Plan) (desks : List DeskView) (crew : Crew N D P) → CanFollow rules disk plan desks crew
      → length crew.submitters.items ≡ length plan.submitters
  submitters_count plan desks crew (places, at, fits) =
      sym (zip_length IsSubmitterAt places.sources crew.submitters.items at.submitters)
      ∙ sym (length-map places.sources (λ (s : Source). s.client)) ∙ ap length fits.submitters

  -- the nodes of members that stayed
  pub seated_on : (places : Places) (crew : Crew N D P) (ms : List (Member N D P)) (actors : List (NodeActor N D)) → IsCrewAt rules disk places crew
      → MembersStay rules disk crew.members.items ms → AllZip IsActorOf ms actors → AreSeated rules disk (seats_of places.posts) actors
  seated_on places crew ms actors at stays of = seated_each rules disk places.posts ms actors (stays.at places.posts at.members) of

  -- one line more
  pub lines_on : (lines : List PlanLine) (k : ℕ) (d : PlanLine) (is_last : Bool) (a b : Crew N D P) → k < length lines → CrewStays rules disk a b
      → (HaveNoEpisode (drop k lines) → AreFaultless a.members.items)
      → (is_episode (get_or lines k d) ≡ true → IsTrue is_last → AreFaultless b.members.items)
      → (IsFalse is_last → HaveNoEpisode (drop (k + 1) lines) → ⊥) → HaveNoEpisode (drop (k + 1) lines) → AreFaultless b.members.items
  lines_on lines k d false a b within stays ended episode last none = absurd (last (cc) none)
  lines_on lines k d true a b within stays ended episode last none = by_line (is_episode (get_or lines k d)) refl where
    by_line : (e : Bool) → is_episode (get_or lines k d) ≡ e → AreFaultless b.members.items
    by_line true is = episode is (cc)
    by_line false is = stays.faultless (ended (drop_none lines k d within is none))

-- ---- one node alone

module _ {N D P : Type 0} (node : NodeId) where
  pub only_itself : (ms : List (Member N D P)) → OnlyAt node ms ms
  only_itself [] = tt
  only_itself (m ∷ ms) = (λ other. refl, only_itself ms)

  later_too : (a b c : Member N D P) → StaysUnless node b c → StaysUnless node a b → StaysUnless node a c
  later_too a b c then first = λ other. let is = first other in then (λ here. other (sym (ap (λ (m : Member N D P). m.actor.core.name) is) ∙ here)) ∙ is

  -- one member more has changed, if it has this name
  pub only_set : (before ms : List (Member N D P)) (k : ℕ) (d m : Member N D P) → OnlyAt node before ms → StaysUnless node (get_or ms k d) m
      → OnlyAt node before (set ms k m)
  only_set before ms k d m only one = zip_set (StaysUnless node) before ms k d m (λ a. later_too a (get_or ms k d) m one) only
