-- Few journals, of replicas that differ.
use Rattle.std.proofs.Common.{◌≡◌, ℕ, ◌<◌, false, [], ◌∷◌, nat_eq}
use Rattle.std.proofs.lemmas.List.Elements.{All-nil, All-cons}
use Rattle.majority.specs.Journals.{AreOfReplicas}
use Rattle.majority.specs.declared.journal.VoteJournal.{VoteJournal}
use Rattle.majority.proofs.Lists.{IsDistinct_nil, IsDistinct_cons}

module _ {V : Type 0} where
  pub one_replica : (n : ℕ) (a : VoteJournal V) → a.replica < n → AreOfReplicas n (a ∷ [])
  one_replica n a within =
      record {
        within = All-cons (λ (j : VoteJournal V). j.replica < n) a [] within (All-nil (λ (j : VoteJournal V). j.replica < n));
        distinct = IsDistinct_cons a.replica [] tt IsDistinct_nil;
      }

  pub two_replicas : (n : ℕ) (a b : VoteJournal V) → a.replica < n → b.replica < n → nat_eq a.replica b.replica ≡ false → AreOfReplicas n (a ∷ b ∷ [])
  two_replicas n a b first second apart =
      record {
        within = All-cons (λ (j : VoteJournal V). j.replica < n) a (b ∷ []) first (one_replica n b second).within;
        distinct = IsDistinct_cons a.replica (b.replica ∷ []) (apart, tt) (one_replica n b second).distinct;
      }
