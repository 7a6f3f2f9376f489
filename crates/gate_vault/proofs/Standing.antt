-- A file stands for at most one list, and for none within the limit where a load refuses it.
use Rattle.std.proofs.Common.{◌≡◌, ◌≢◌, inl, inr, refl, sym, ap, ◌∙◌, subst, ℕ, zero, suc, ◌/◌, ◌%◌, ◌<◌, ◌≤◌, List, [], ◌∷◌, ◌++◌, length, take, drop, arith, append_assoc, length-append}
use Rattle.std.specs.Prelude.{slice_get, Option}
use Rattle.gate_vault.specs.declared.errors.VaultError.{VaultError}
use Rattle.gate_vault.specs.declared.errors.VaultError.TheVariants.{Broken, TooLong, DiskFault, NotAVault, Damaged, OutOfMemory}
use Rattle.gate_vault.specs.Stops.{IsStop, RefusesFile}
use Rattle.std.proofs.lemmas.List.{take_at, drop_at}
use Rattle.gate_vault.specs.File.{head, payload, frames, IsClosed, StandsFor, AreShort, HeadDiffers, IsNoPayload, IsDamagedAt}

-- two payloads that begin one list have one length
same_length : (e f x y : List ℕ) → payload e ++ x ≡ payload f ++ y → length e ≡ length f
same_length e f x y same =
    let high : length e / 256 ≡ length f / 256 = cc in
    let low : length e % 256 ≡ length f % 256 = cc in
    omega arith

same_rest : (e f x y : List ℕ) → payload e ++ x ≡ payload f ++ y → e ++ x ≡ f ++ y
same_rest e f x y same = ap (drop 2) same

same_entry : (e f x y : List ℕ) → payload e ++ x ≡ payload f ++ y → (e ≡ f) × (x ≡ y)
same_entry e f x y same =
    let long : length e ≡ length f = same_length e f x y same in
    let rest : e ++ x ≡ f ++ y = same_rest e f x y same in (
      sym (take_at e x (length e) refl) ∙ ap (take (length e)) rest ∙ take_at f y (length e) (sym long),
      sym (drop_at e x (length e) refl) ∙ ap (drop (length e)) rest ∙ drop_at f y (length e) (sym long),
    )

never_open : (rest more : List ℕ) → IsClosed rest → rest ≡ 1 ∷ more → ⊥
never_open rest more closed opens =
    let shut : 1 ≢ 1 = subst IsClosed opens closed in
    shut refl

behind_frame : (e : List ℕ) (a : List (List ℕ)) (rest : List ℕ) → frames (e ∷ a) ++ rest ≡ 1 ∷ payload e ++ (frames a ++ rest)
behind_frame e a rest = append_assoc (1 ∷ payload e) (frames a) rest

frames_one : (a b : List (List ℕ)) (x y : List ℕ) → frames a ++ x ≡ frames b ++ y → IsClosed x → IsClosed y → a ≡ b
frames_one [] [] x y same shut_x shut_y = refl
frames_one [] (f ∷ b) x y same shut_x shut_y = absurd (never_open x (payload f ++ (frames b ++ y)) shut_x (same ∙ behind_frame f b y))
frames_one (e ∷ a) [] x y same shut_x shut_y = absurd (never_open y (payload e ++ (frames a ++ x)) shut_y (sym same ∙ behind_frame e a x))
frames_one (e ∷ a) (f ∷ b) x y same shut_x shut_y =
    let parts : (e ≡ f) × (frames a ++ x ≡ frames b ++ y) = same_entry e f (frames a ++ x) (frames b ++ y) (ap (drop 1) (sym (behind_frame e a x) ∙ same ∙ behind_frame f b y)) in
    ap (λ (h : List ℕ). h ∷ a) parts.0 ∙ ap (λ (t : List (List ℕ)). f ∷ t) (frames_one a b x y parts.1 shut_x shut_y)

behind_head : (file : List ℕ) (a : List (List ℕ)) (x : List ℕ) → file ≡ head ++ frames a ++ x → drop 8 file ≡ frames a ++ x
behind_head file a x is = ap (drop 8) is

pub stands_for_one : (file : List ℕ) (a b : List (List ℕ)) → StandsFor file a → StandsFor file b → a ≡ b
stands_for_one file a b one other =
    frames_one a b one.rest other.rest (sym (behind_head file a one.rest one.split) ∙ behind_head file b other.rest other.split) one.closed other.closed

not_short : (f rest y : List ℕ) → length f ≤ 4096 → rest ≡ payload f ++ y → IsNoPayload rest → ⊥
not_short f rest y few is none = elim (subst IsNoPayload is none) [
  | inl long ↦ omega arith
  | inr short ↦ omega (arith, length-append f y)
]

undamaged : (a b : List (List ℕ)) (rest y : List ℕ) → frames a ++ (1 ∷ rest) ≡ frames b ++ y → AreShort b → IsClosed y → IsNoPayload rest → ⊥
undamaged [] [] rest y same short shut none = never_open y rest shut (sym same)
undamaged [] (f ∷ b) rest y same short shut none = not_short f rest (frames b ++ y) short.0 (ap (drop 1) (same ∙ behind_frame f b y)) none
undamaged (e ∷ a) [] rest y same short shut none = never_open y (payload e ++ (frames a ++ (1 ∷ rest))) shut (sym same ∙ behind_frame e a (1 ∷ rest))
undamaged (e ∷ a) (f ∷ b) rest y same short shut none =
    let parts : (e ≡ f) × (frames a ++ (1 ∷ rest) ≡ frames b ++ y) =
    same_entry e f (frames a ++ (1 ∷ rest)) (frames b ++ y) (ap (drop 1) (sym (behind_frame e a (1 ∷ rest)) ∙ same ∙ behind_frame f b y)) in
    undamaged a b rest y parts.1 short.1 shut none

pub no_damage : (file : List ℕ) (at : ℕ) (entries : List (List ℕ)) → StandsFor file entries → AreShort entries → IsDamagedAt file at → ⊥
no_damage file at entries stands short damaged =
    undamaged damaged.entries entries damaged.rest stands.rest
    (sym (behind_head file damaged.entries (1 ∷ damaged.rest) damaged.split) ∙ behind_head file entries stands.rest stands.split) short stands.closed damaged.no_payload

head_there : (x : List ℕ) (at : ℕ) → at < 8 → slice_get (head ++ x) at ≡ slice_get head at
head_there x zero lt = refl
head_there x (suc zero) lt = refl
head_there x (suc (suc zero)) lt = refl
head_there x (suc (suc (suc zero))) lt = refl
head_there x (suc (suc (suc (suc zero)))) lt = refl
head_there x (suc (suc (suc (suc (suc zero))))) lt = refl
head_there x (suc (suc (suc (suc (suc (suc zero)))))) lt = refl
head_there x (suc (suc (suc (suc (suc (suc (suc zero))))))) lt = refl
head_there x (suc (suc (suc (suc (suc (suc (suc (suc n)))))))) lt = absurd (omega arith)

no_difference : (file : List ℕ) (at : ℕ) (byte : Option ℕ) (entries : List (List ℕ)) → StandsFor file entries → HeadDiffers file at byte → ⊥
no_difference file at byte entries stands differs =
    let whole : file ≡ head ++ (frames entries ++ stands.rest) = stands.split in
    differs.differs (sym differs.there ∙ ap (λ (f : List ℕ). slice_get f at) whole ∙ head_there (frames entries ++ stands.rest) at differs.within)

pub never_refused : (file : List ℕ) (entries : List (List ℕ)) → StandsFor file entries → AreShort entries → (e : VaultError) → RefusesFile file e → IsStop e
never_refused file entries stands short Broken refuses = refuses
never_refused file entries stands short (TooLong len) refuses = refuses
never_refused file entries stands short DiskFault refuses = tt
never_refused file entries stands short (NotAVault at byte) refuses = no_difference file at byte entries stands refuses
never_refused file entries stands short (Damaged at) refuses = no_damage file at entries stands short refuses
never_refused file entries stands short OutOfMemory refuses = tt
