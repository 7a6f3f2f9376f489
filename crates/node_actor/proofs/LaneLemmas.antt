-- The links from a node, one of which is written.
use Rattle.std.proofs.Common.{◌≡◌, ◌⊎◌, inl, inr, ℕ, zero, suc, ◌+◌, min, ◌<◌, ◌≤◌, List, [], ◌∷◌, ◌++◌, length, map, get_or, set, Some, None, refl, sym, ap}
use Rattle.std.proofs.Common.{◌∙◌, append_assoc, arith}
use Rattle.link_faults.specs.declared.plan.FaultPlan.{FaultPlan}
use Rattle.link_faults.specs.Faults.{Holding, held_frames, held_by, after_word, next_fate, what_is_queued}
use Rattle.node_links.specs.declared.frame.Frame.{Frame}
use Rattle.node_links.specs.Links.{LinkName, Sending, queued}
use Rattle.node_actor.specs.Lanes.{Lane, passed, released, links_of, lanes, at_place}

-- ---- one link

abbrev pub lane_with : List Frame → Holding → Lane
lane_with q h = record { queued = q; faults = h }

abbrev pub lane : Sending → Holding → Lane
lane o h = lane_with (queued o) h

lane_is : (q q' : List Frame) (h h' : Holding) → q ≡ q' → h.words ≡ h'.words → h.held ≡ h'.held → lane_with q h ≡ lane_with q' h'
lane_is q q' h h' a b c =
    let faults : h ≡ h' = ap (λ w. record { words = w; held = h.held }) b ∙ ap (λ x. record { words = h'.words; held = x }) c in
    ap (λ l. lane_with l h) a ∙ ap (lane_with q') faults

pub passed_by_plan : (plan : FaultPlan) (f : Frame) (o o' : Sending) (h h' : Holding)
    → queued o' ≡ queued o ++ what_is_queued (next_fate plan h) f h.held → h'.words ≡ after_word h.words → h'.held ≡ held_by (next_fate plan h) f
    → lane o' h' ≡ passed (Some plan) f (lane o h)
passed_by_plan plan f o o' h h' is words held =
    lane_is (queued o') (queued o ++ what_is_queued (next_fate plan h) f h.held) h' (record {
      words = after_word h.words;
      held = held_by
          (next_fate plan h) f;
    }) is words held

pub passed_plainly : (f : Frame) (o o' : Sending) (h : Holding) → o'.pushed ≡ o.pushed → o'.waiting ≡ o.waiting ++ f ∷ [] → lane o' h ≡ passed None f (lane o h)
passed_plainly f o o' h pushed waiting =
    ap (λ q. lane_with q h)
    (ap (λ l. l ++ o'.waiting) pushed ∙ ap (λ l. o.pushed ++ l) waiting ∙ sym (append_assoc o.pushed o.waiting (f ∷ [])))

-- ---- all links

pub links_set : (outs : List Sending) (k : ℕ) (d o : Sending) → k < length outs → o.link ≡ (get_or outs k d).link → links_of (set outs k o) ≡ links_of outs
links_set [] k d o below same = absurd (omega arith)
links_set (x ∷ outs) zero d o below same = ap (λ (n : LinkName). n ∷ links_of outs) same
links_set (x ∷ outs) (suc k) d o below same = ap (λ l. x.link ∷ l) (links_set outs k d o (omega arith) same)

pub lanes_set : (change : Lane → Lane) (outs : List Sending) (faults : List Holding) (k : ℕ) (d o : Sending) (e h : Holding) → k < length outs
    → k < length faults
    → lane o h ≡ change (lane (get_or outs k d) (get_or faults k e)) → lanes (set outs k o) (set faults k h) ≡ at_place k change (lanes outs faults)
lanes_set change [] faults k d o e h below here is = absurd (omega arith)
lanes_set change (x ∷ outs) [] k d o e h below here is = absurd (omega arith)
lanes_set change (x ∷ outs) (y ∷ faults) zero d o e h below here is = ap (λ (l : Lane). l ∷ lanes outs faults) is
lanes_set change (x ∷ outs) (y ∷ faults) (suc k) d o e h below here is =
    ap (λ l. lane x y ∷ l) (lanes_set change outs faults k d o e h (omega arith) (omega arith) is)

-- where the link's faults stay as they are
pub lanes_out : (change : Lane → Lane) (outs : List Sending) (faults : List Holding) (k : ℕ) (d o : Sending) → k < length outs
    → ((h : Holding) → lane o h ≡ change (lane (get_or outs k d) h)) → lanes (set outs k o) faults ≡ at_place k change (lanes outs faults)
lanes_out change [] faults k d o below is = absurd (omega arith)
lanes_out change (x ∷ outs) [] zero d o below is = refl
lanes_out change (x ∷ outs) [] (suc k) d o below is = refl
lanes_out change (x ∷ outs) (y ∷ faults) zero d o below is = ap (λ (l : Lane). l ∷ lanes outs faults) (is y)
lanes_out change (x ∷ outs) (y ∷ faults) (suc k) d o below is = ap (λ l. lane x y ∷ l) (lanes_out change outs faults k d o (omega arith) is)

-- past the last link nothing is changed
pub lanes_past : (change : Lane → Lane) (outs : List Sending) (faults : List Holding) (k : ℕ) → (length outs ≤ k) ⊎ (length faults ≤ k)
    → lanes outs faults ≡ at_place k change (lanes outs faults)
lanes_past change [] faults k past = refl
lanes_past change (x ∷ outs) [] k past = refl
lanes_past change (x ∷ outs) (y ∷ faults) zero (inl past) = absurd (omega arith)
lanes_past change (x ∷ outs) (y ∷ faults) zero (inr past) = absurd (omega arith)
lanes_past change (x ∷ outs) (y ∷ faults) (suc k) (inl past) = ap (λ l. lane x y ∷ l) (lanes_past change outs faults k (inl (omega arith)))
lanes_past change (x ∷ outs) (y ∷ faults) (suc k) (inr past) = ap (λ l. lane x y ∷ l) (lanes_past change outs faults k (inr (omega arith)))

-- ---- the end of faults

-- the first links have queued what they held
abbrev pub release_first : ℕ → List Lane → List Lane
release_first zero ls = ls
release_first (suc k) [] = []
release_first (suc k) (l ∷ ls) = released l ∷ release_first k ls

pub release_more : (k : ℕ) (ls : List Lane) → at_place k released (release_first k ls) ≡ release_first (suc k) ls
release_more zero [] = refl
release_more zero (l ∷ ls) = refl
release_more (suc k) [] = refl
release_more (suc k) (l ∷ ls) = ap (λ rest. released l ∷ rest) (release_more k ls)

pub all_released : (k : ℕ) (outs : List Sending) (faults : List Holding) → (length outs ≤ k) ⊎ (length faults ≤ k)
    → release_first k (lanes outs faults) ≡ map released (lanes outs faults)
all_released zero [] faults past = refl
all_released (suc k) [] faults past = refl
all_released zero (x ∷ outs) [] past = refl
all_released (suc k) (x ∷ outs) [] past = refl
all_released zero (x ∷ outs) (y ∷ faults) (inl past) = absurd (omega arith)
all_released zero (x ∷ outs) (y ∷ faults) (inr past) = absurd (omega arith)
all_released (suc k) (x ∷ outs) (y ∷ faults) (inl past) = ap (λ rest. released (lane x y) ∷ rest) (all_released k outs faults (inl (omega arith)))
all_released (suc k) (x ∷ outs) (y ∷ faults) (inr past) = ap (λ rest. released (lane x y) ∷ rest) (all_released k outs faults (inr (omega arith)))

pub release_more_at : (k : ℕ) (ls : List Lane) → at_place k released (release_first k ls) ≡ release_first (k + 1) ls
release_more_at k ls = let at : k + 1 ≡ suc k = omega arith in release_more k ls ∙ ap (λ n. release_first n ls) (sym at)

pub all_released_min : (k : ℕ) (outs : List Sending) (faults : List Holding) → min (length outs) (length faults) ≤ k
    → release_first k (lanes outs faults) ≡ map released (lanes outs faults)
all_released_min k outs faults past = all_released k outs faults (which (length outs) (length faults) k past) where
  which : (a b k : ℕ) → min a b ≤ k → (a ≤ k) ⊎ (b ≤ k)
  which a b k past = grind arith

pub lane_after : (o o' : Sending) (h h' : Holding) → queued o' ≡ queued o ++ held_frames h.held → h' ≡ record { words = h.words; held = None }
    → lane o' h' ≡ released (lane o h)
lane_after o o' h h' is none = ap (λ q. lane_with q h') is ∙ ap (lane_with (queued o ++ held_frames h.held)) none

-- ---- frames that move into a ring

pub lanes_kept : (outs : List Sending) (faults : List Holding) (k : ℕ) (d o : Sending) → k < length outs → queued o ≡ queued (get_or outs k d)
    → lanes (set outs k o) faults ≡ lanes outs faults
lanes_kept [] faults k d o below same = absurd (omega arith)
lanes_kept (x ∷ outs) [] zero d o below same = refl
lanes_kept (x ∷ outs) [] (suc k) d o below same = refl
lanes_kept (x ∷ outs) (y ∷ faults) zero d o below same = ap (λ q. lane_with q y ∷ lanes outs faults) same
lanes_kept (x ∷ outs) (y ∷ faults) (suc k) d o below same = ap (λ l. lane x y ∷ l) (lanes_kept outs faults k d o (omega arith) same)
