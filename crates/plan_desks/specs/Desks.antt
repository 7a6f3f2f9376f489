-- The desks of a plan's clients and its submitters, as a run begins.
use Rattle.std.specs.Prelude.{◌≡◌, ◌==◌, ℕ, zero, suc, ◌<◌, ◌≤◌, ⊤, Bool, true, false, List, [], ◌∷◌, ◌++◌, Some, slice_get}
use Rattle.msg_wire.specs.declared.plan.PlanLine.{PlanLine}
use Rattle.msg_wire.specs.declared.plan.PlanLine.TheVariants as plan_lines
use Rattle.submit_desk.specs.Passes.{DeskView, taker}
use Rattle.cluster_users.specs.Submitting.{Submitting, submitting}
use Rattle.plan_desks.specs.declared.begun.Taker.{Taker}

-- ---- the bodies of lines

abbrev pub body_if : Bool → List ℕ → List (List ℕ)
body_if true body = body ∷ []
body_if false body = []

-- the body that a line gives to a submitter, if it gives one
abbrev pub body_for : ℕ → PlanLine → List (List ℕ)
body_for by (plan_lines.Submit submitter body) = body_if (submitter == by) body
body_for by (plan_lines.Episode turns) = []
body_for by (plan_lines.Restart node) = []
body_for by (plan_lines.Command node command) = []

-- all that lines give to it, in order
abbrev pub bodies_for : ℕ → List PlanLine → List (List ℕ)
bodies_for by [] = []
bodies_for by (line ∷ lines) = body_for by line ++ bodies_for by lines

-- the bodies of submitters from a number on
abbrev pub AreBodies : List PlanLine → ℕ → List (List (List ℕ)) → Type 0
AreBodies lines from [] = ⊤
AreBodies lines from (bodies ∷ later) = (bodies ≡ bodies_for from lines) × AreBodies lines (suc from) later

-- a body is of one of so many submitters
abbrev pub IsLineFor : ℕ → PlanLine → Type 0
IsLineFor count (plan_lines.Submit submitter body) = submitter < count
IsLineFor count (plan_lines.Episode turns) = ⊤
IsLineFor count (plan_lines.Restart node) = ⊤
IsLineFor count (plan_lines.Command node command) = ⊤

-- a body is put behind those of its submitter
abbrev pub put_behind : ℕ → List ℕ → List (List (List ℕ)) → List (List (List ℕ))
put_behind by body [] = []
put_behind zero body (bodies ∷ later) = (bodies ++ body ∷ []) ∷ later
put_behind (suc by) body (bodies ∷ later) = bodies ∷ put_behind by body later

abbrev pub with_line : PlanLine → List (List (List ℕ)) → List (List (List ℕ))
with_line (plan_lines.Submit submitter body) all = put_behind submitter body all
with_line (plan_lines.Episode turns) all = all
with_line (plan_lines.Restart node) all = all
with_line (plan_lines.Command node command) all = all

-- ---- desks and submitters

-- an empty desk has room for so many bodies
abbrev pub HasRoom : DeskView → Type 0
HasRoom at = at.capacity ≡ 64

-- the taking pass of a desk, which took nothing; no submitter from a number on has had a pass of it, and none is back
pub record IsTaking (next : ℕ) (at : DeskView) (t : Taker) : Type 0 where
  pub desk : t.pass.desk ≡ at.desk
  pub knows : t.pass.knows ≡ taker [] t.pass.knows.next []
  pub below : t.pass.knows.next ≤ next

-- the taking passes are of the clients from a number on
abbrev pub AreOfClients : ℕ → List Taker → Type 0
AreOfClients number [] = ⊤
AreOfClients number (t ∷ later) = (t.client ≡ number) × AreOfClients (suc number) later

-- submitters from a number on, each of its client's desk, with all its bodies
abbrev pub AreBegun : List DeskView → List PlanLine → ℕ → List ℕ → List Submitting → Type 0
AreBegun desks lines number [] [] = ⊤
AreBegun desks lines number [] (s ∷ later) = ⊥
AreBegun desks lines number (client ∷ clients) [] = ⊥
AreBegun desks lines number (client ∷ clients) (s ∷ later) =
    (desk : DeskView) × (slice_get desks client ≡ Some desk) × (s ≡ submitting number client desk.desk (bodies_for number lines))
    × AreBegun desks lines (suc number) clients later
