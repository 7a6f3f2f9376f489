-- What an attempt has heard, after one more promise.
use Rattle.std.proofs.Common.{◌≡◌, ℕ, suc, ◌<◌, ◌≤◌, List, Option, Some, None, Contains, ◌⊎◌, inl, inr, sym, ◌∙◌, subst, arith}
use Rattle.std.proofs.lemmas.Bool.Decides.{leb_tells}
use Rattle.majority.specs.Ballots.{with_replica}
use Rattle.majority.specs.Proposers.{Attempt, greater_report, with_heard}
use Rattle.majority.specs.Votes.{Vote, HasVote}
use Rattle.majority.specs.Slot.{Message, Promise}
use Rattle.majority.proofs.Members.{Contains_with_replica, with_replica_has, with_replica_keeps}
use Rattle.majority.specs.Agreement.{Reaches, AcceptorIsItems, IsLastVote, Tells, PromisesTell, IsOfVote, Covers, ReportedBy, HasPromises}
use Rattle.majority.specs.Acceptors.{AcceptorState}
use Rattle.majority.proofs.Casts.{Reaches_bound}

module _ {V : Type 0} where
  -- the greater of two reports is the second where its ballot is greater, else the first
  greater_report_cases : (P : Option (ℕ × V) → Type 0) (p q : ℕ × V) → (p.0 < q.0 → P (Some q)) → (q.0 ≤ p.0 → P (Some p))
      → P (greater_report (Some p) (Some q))
  greater_report_cases P p q later earlier =
      elim (leb_tells (suc p.0) q.0) [
        | inl above ↦ rw above.0 (later (omega arith))
        | inr below ↦ rw below.0 (earlier (omega arith))
      ]

  pub Covers_first : (p q r : Option (ℕ × V)) → Covers p r → Covers (greater_report p q) r
  Covers_first None q None h = tt
  Covers_first None q (Some r) h = absurd h
  Covers_first (Some p) None r h = h
  Covers_first (Some p) (Some q) None h = greater_report_cases (λ g. Covers g None) p q (λ _. tt) (λ _. tt)
  Covers_first (Some p) (Some q) (Some r) h =
      let no_more : r.0 ≤ p.0 = h in
      greater_report_cases (λ g. Covers g (Some r)) p q (λ above. omega arith) (λ below. h)

  pub Covers_second : (p q r : Option (ℕ × V)) → Covers q r → Covers (greater_report p q) r
  Covers_second None q r h = h
  Covers_second (Some p) None None h = tt
  Covers_second (Some p) None (Some r) h = absurd h
  Covers_second (Some p) (Some q) None h = greater_report_cases (λ g. Covers g None) p q (λ _. tt) (λ _. tt)
  Covers_second (Some p) (Some q) (Some r) h =
      let no_more : r.0 ≤ q.0 = h in
      greater_report_cases (λ g. Covers g (Some r)) p q (λ above. h) (λ below. omega arith)

  pub Covers_refl : (p : Option (ℕ × V)) → Covers p p
  Covers_refl None = tt
  Covers_refl (Some p) = omega arith

  pub IsOfVote_greater : (votes : List (Vote V)) (p q : Option (ℕ × V)) → IsOfVote votes p → IsOfVote votes q → IsOfVote votes (greater_report p q)
  IsOfVote_greater votes None q h k = k
  IsOfVote_greater votes (Some p) None h k = h
  IsOfVote_greater votes (Some p) (Some q) h k = greater_report_cases (IsOfVote votes) p q (λ _. k) (λ _. h)

  -- what was reported at the ballot is of a vote
  pub IsOfVote_reported : (n : ℕ) (votes : List (Vote V)) (bars : ℕ → Option ℕ) (sent : List (Message V)) (ballot : ℕ) (promises : List ℕ)
      (report : Option (ℕ × V)) →
      ((from : ℕ) (told : Option (ℕ × V)) → Contains sent (Promise from ballot told) → PromisesTell n votes bars from ballot told)
      → ReportedBy (λ from told. Contains sent (Promise from ballot told)) promises report → IsOfVote votes report
  IsOfVote_reported n votes bars sent ballot promises None tell was = tt
  IsOfVote_reported n votes bars sent ballot promises (Some report) tell was = (was.0, (tell was.0 (Some report) was.2).tells.1)

  IsOfVote_last : (votes : List (Vote V)) (i : ℕ) (last : Option (ℕ × V)) → IsLastVote votes i last → IsOfVote votes last
  IsOfVote_last votes i None h = tt
  IsOfVote_last votes i (Some last) h = (i, h.0)

  pub IsOfVote_own : (n : ℕ) (votes : List (Vote V)) (i : ℕ) (own : AcceptorState V) → AcceptorIsItems n votes i own → IsOfVote votes own.accepted
  IsOfVote_own n votes i own holds = IsOfVote_last votes i own.accepted holds.last

  Tells_last : (votes : List (Vote V)) (i b : ℕ) (last : Option (ℕ × V)) → ((c : ℕ) (w : V) → HasVote votes i c w → c ≤ b) → IsLastVote votes i last
      → Tells votes i b last
  Tells_last votes i b None bound holds = λ other below value vote. holds other value vote
  Tells_last votes i b (Some last) bound holds =
      (bound last.0 last.1 holds.0, holds.0, λ other above below value vote. let most = holds.1 other value vote in omega arith)

  -- an acceptor whose promise does not pass the ballot tells the truth by its acceptance
  pub Tells_own : (n : ℕ) (votes : List (Vote V)) (i b : ℕ) (own : AcceptorState V) → AcceptorIsItems n votes i own → (Reaches own.promised (suc b) → ⊥)
      → Tells votes i b own.accepted
  Tells_own n votes i b own holds free =
      Tells_last votes i b own.accepted (λ c w vote. Reaches_bound own.promised b c free (holds.barred c w vote)) holds.last

  -- ---- one more promise is heard

  module _ (own : ℕ) (Promised : ℕ → Option (ℕ × V) → Type 0) where
    ReportedBy_greater : (promises : List ℕ) (p q : Option (ℕ × V)) → ReportedBy Promised promises p → ReportedBy Promised promises q
        → ReportedBy Promised promises (greater_report p q)
    ReportedBy_greater promises None q h k = k
    ReportedBy_greater promises (Some p) None h k = h
    ReportedBy_greater promises (Some p) (Some q) h k = greater_report_cases (ReportedBy Promised promises) p q (λ _. k) (λ _. h)

    ReportedBy_more : (from : ℕ) (promises : List ℕ) (report : Option (ℕ × V)) → ReportedBy Promised promises report
        → ReportedBy Promised (with_replica from promises) report
    ReportedBy_more from promises None was = tt
    ReportedBy_more from promises (Some report) was = (was.0, with_replica_keeps from was.0 promises was.1, was.2)

    -- another's promise, or the own one, which reports nothing
    abbrev pub IsPromise : ℕ → Option (ℕ × V) → Type 0
    IsPromise from report = Promised from report ⊎ ((from ≡ own) × (report ≡ None))

    ReportedBy_heard : (from : ℕ) (promises : List ℕ) (report : Option (ℕ × V)) → IsPromise from report
        → ReportedBy Promised (with_replica from promises) report
    ReportedBy_heard from promises None is = tt
    ReportedBy_heard from promises (Some report) is = elim is [
      | inl came ↦ (from, with_replica_has from promises, came)
      | inr alone ↦ absurd (let none = alone.1 in cc)
    ]

    pub HasPromises_heard : (from : ℕ) (report : Option (ℕ × V)) (a : Attempt V) → IsPromise from report → HasPromises own Promised a
        → HasPromises own Promised (with_heard from report a)
    HasPromises_heard from report a is have =
        record {
          heard = λ j among. elim (Contains_with_replica from j a.promises among) [
            | inl old ↦ elim (have.heard j old) [
              | inl alone ↦ inl alone
              | inr other ↦ inr (other.0, other.1, Covers_first a.reported report other.0 other.2)
            ]
            | inr new ↦ elim is [
              | inl came ↦ inr (report, subst (λ k. Promised k report) new came, Covers_second a.reported report report (Covers_refl report))
              | inr alone ↦ inl (sym new ∙ alone.0)
            ]
          ];
          reported = ReportedBy_greater (with_replica from a.promises) a.reported report (ReportedBy_more from a.promises a.reported have.reported)
              (ReportedBy_heard from a.promises report is);
        }
