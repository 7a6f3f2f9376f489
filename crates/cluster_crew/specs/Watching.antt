-- Readers and submitters at their places: what stays of each.
use Rattle.std.specs.Prelude.{◌≡◌, ℕ, List, IsSomeAnd, slice_get}
use Rattle.std.specs.List.{AllByRecursion, AllZip}
use Rattle.atomic_table.specs.Seated.{TableId}
use Rattle.logbook.specs.Pages.{Book}
use Rattle.submit_desk.specs.Passes.{DeskView}
use Rattle.spec_base.specs.declared.disk.Disk.{Ghosts as DiskRules}
use Rattle.msg_wire.specs.Names.nodes
use Rattle.net_model.specs.declared.model.NodeModel.{Ghosts as NodeRules}
use Rattle.cluster_users.specs.Reading.{Reading}
use Rattle.cluster_users.specs.Submitting.{Submitting, bodies_of}
use Rattle.cluster_crew.specs.declared.member.Member.{Member}
use Rattle.cluster_crew.specs.Posts.{Post, IsMemberAt}

-- where things are at their places, by a relation, before, they are afterwards
abbrev pub AllStay : {A B : Type 0} → (A → B → Type 0) → List B → List B → Type 0
AllStay {A} At before after = (places : List A) → AllZip At places before → AllZip At places after

-- what stays of a reader
pub record Watch : Type 0 where
  pub number : ℕ
  pub consumer : ℕ  -- whose view it looks at
  pub cell : Book

abbrev pub IsReaderAt : Watch → Reading → Type 0
IsReaderAt watch reader = (reader.number ≡ watch.number) × (reader.consumer ≡ watch.consumer) × (reader.pass.cell ≡ watch.cell)

-- what stays of a submitter
pub record Source : Type 0 where
  pub number : ℕ
  pub client : ℕ  -- whose desk it submits to
  pub desk : TableId
  pub bodies : List (List ℕ)  -- all its bodies, submitted or not, in order

abbrev pub IsSubmitterAt : Source → Submitting → Type 0
IsSubmitterAt source s = (s.number ≡ source.number) × (s.client ≡ source.client) × (s.desk ≡ source.desk) × (bodies_of s ≡ source.bodies)

-- a reader's cell is that of its consumer
abbrev pub Watches : Watch → Post → Type 0
Watches watch post = post.seat.name ≡ nodes.Consumer watch.consumer → watch.cell ≡ post.cell

abbrev pub WatchesPosts : List Post → Watch → Type 0
WatchesPosts posts watch = AllByRecursion (Watches watch) posts

-- it is the same reader, of the same view
abbrev pub StaysReader : Reading → Reading → Type 0
StaysReader before after = (watch : Watch) → IsReaderAt watch before → IsReaderAt watch after

-- a submitter's desk is that of its client
abbrev pub SourceAtDesk : List DeskView → Source → Type 0
SourceAtDesk desks source = IsSomeAnd (slice_get desks source.client) (λ (d : DeskView). d.desk ≡ source.desk)

module _ {N D P : Type 0} where
  -- a member, and a reader of the consumer with this number, which may be this one
  abbrev pub IsWatchedBy : NodeRules N → DiskRules D → ℕ → Member N D P → Reading → Type 0
  IsWatchedBy rules disk consumer member reader =
      (post : Post) × (watch : Watch) × IsMemberAt rules disk post member × IsReaderAt watch reader × Watches watch post × (watch.consumer ≡ consumer)
