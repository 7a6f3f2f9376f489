-- Frames that come from others: what holds of those holds of these.
use Rattle.std.proofs.Common.{◌≡◌, inl, inr, List, [], ◌∷◌, ◌++◌, refl, sym, subst, ap, ◌∙◌, append_assoc, append-nil, Option}
use Rattle.std.specs.List.{AllByRecursion}
use Rattle.node_links.specs.declared.frame.Frame.{Frame}
use Rattle.link_faults.specs.Fates.{Fate}
use Rattle.link_faults.specs.Fates.fates
use Rattle.link_faults.specs.Faults.{cut_frame, held_frames, queued_by, held_by, what_is_queued, IsBegun, IsAmong, AreAmong, all_before}

-- ---- what holds of each

pub all_append : (P : Frame → Type 0) (xs ys : List Frame) → AllByRecursion P xs → AllByRecursion P ys → AllByRecursion P (xs ++ ys)
all_append P [] ys none all = all
all_append P (x ∷ xs) ys front back = (front.0, all_append P xs ys front.1 back)

pub all_front : (P : Frame → Type 0) (xs ys : List Frame) → AllByRecursion P (xs ++ ys) → AllByRecursion P xs
all_front P [] ys all = tt
all_front P (x ∷ xs) ys all = (all.0, all_front P xs ys all.1)

pub all_back : (P : Frame → Type 0) (xs ys : List Frame) → AllByRecursion P (xs ++ ys) → AllByRecursion P ys
all_back P [] ys all = all
all_back P (x ∷ xs) ys all = all_back P xs ys all.1

holds_at : (P : Frame → Type 0) (these : List Frame) (f : Frame) → AllByRecursion P these → IsAmong these f → P f
holds_at P [] f all there = absurd there
holds_at P (x ∷ xs) f all (inl is) = subst P (sym is) all.0
holds_at P (x ∷ xs) f all (inr later) = holds_at P xs f all.1 later

-- what holds of each of these holds of each that is among them
pub keeps_each : (P : Frame → Type 0) (these frames : List Frame) → AreAmong these frames → AllByRecursion P these → AllByRecursion P frames
keeps_each P these [] among all = tt
keeps_each P these (f ∷ frames) among all = (holds_at P these f all among.0, keeps_each P these frames among.1 all)

-- ---- what is among them

one_more : (x : Frame) (these frames : List Frame) → AreAmong these frames → AreAmong (x ∷ these) frames
one_more x these [] among = tt
one_more x these (f ∷ frames) among = (inr among.0, one_more x these frames among.1)

pub among_themselves : (these : List Frame) → AreAmong these these
among_themselves [] = tt
among_themselves (x ∷ these) = (inl refl, one_more x these these (among_themselves these))

-- ---- one message

own_holds : (P : Frame → Type 0) (fate : Fate) (f : Frame) → AllByRecursion P (f ∷ cut_frame f ∷ []) → AllByRecursion P (queued_by fate f ++ held_frames (held_by fate f))
own_holds P fates.Lost f all = tt
own_holds P fates.Twice f all = (all.0, (all.0, tt))
own_holds P fates.Late f all = (all.0, tt)
own_holds P fates.Cut f all = (all.1.0, tt)
own_holds P fates.Once f all = (all.0, tt)

all_hold : (P : Frame → Type 0) (before after : List Frame) (held : Option Frame) (fate : Fate) (f : Frame) → AllByRecursion P (all_before before held f)
    → IsBegun before after (what_is_queued fate f held) → AllByRecursion P (after ++ held_frames (held_by fate f))
all_hold P before after held fate f all begun =
    let later = all_back P before (held_frames held ++ (f ∷ cut_frame f ∷ [])) all in
    let own = own_holds P fate f (all_back P (held_frames held) (f ∷ cut_frame f ∷ []) later) in
    let queued = all_append P (queued_by fate f) (held_frames held) (all_front P (queued_by fate f) (held_frames (held_by fate f)) own)
    (all_front P (held_frames held) (f ∷ cut_frame f ∷ []) later) in
    let more = all_front P begun.more begun.rest (subst (AllByRecursion P) begun.begins queued) in
    all_append P after (held_frames (held_by fate f))
    (subst (AllByRecursion P) (sym begun.added) (all_append P before begun.more (all_front P before (held_frames held ++ (f ∷ cut_frame f ∷ [])) all) more))
    (all_back P (queued_by fate f) (held_frames (held_by fate f)) own)

-- what is queued and held after a message comes from what was there, or is the message
pub sent_among : (before after : List Frame) (held then : Option Frame) (fate : Fate) (f : Frame) → IsBegun before after (what_is_queued fate f held)
    → then ≡ held_by fate f → AreAmong (all_before before held f) (after ++ held_frames then)
sent_among before after held then fate f begun is =
    let these = all_before before held f in
    subst (λ h. AreAmong these (after ++ held_frames h)) (sym is) (all_hold (IsAmong these) before after held fate f (among_themselves these) begun)

-- ---- beginnings

pub all_begun : (before after these : List Frame) → after ≡ before ++ these → IsBegun before after these
all_begun before after these e = record { more = these; rest = []; added = e; begins = sym (append-nil these) }

pub none_begun : (before after these : List Frame) → after ≡ before → IsBegun before after these
none_begun before after these e = record { more = []; rest = these; added = e ∙ sym (append-nil before); begins = refl }

-- a beginning of the first is one of the two
pub first_begun : (before after one two : List Frame) → IsBegun before after one → IsBegun before after (one ++ two)
first_begun before after one two begun =
    record { more = begun.more; rest = begun.rest ++ two; added = begun.added; begins = ap (λ l. l ++ two) begun.begins ∙ append_assoc begun.more begun.rest two }

-- and so is the first with a beginning of the second
pub second_begun : (before mid after one two : List Frame) → mid ≡ before ++ one → IsBegun mid after two → IsBegun before after (one ++ two)
second_begun before mid after one two e begun = record {
  more = one ++ begun.more;
  rest = begun.rest;
  added = begun.added ∙ ap (λ l. l ++ begun.more) e ∙ append_assoc before one begun.more;
  begins = ap (λ l. one ++ l) begun.begins ∙ sym (append_assoc one begun.more begun.rest);
}
