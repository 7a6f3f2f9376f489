-- The end of a crew: the bodies that clients still take, and what is left of all.
use Rattle.std.specs.Prelude.{◌≡◌, ℕ, ◌≤◌, true, List, [], map, IsSomeAnd, slice_get, vec_capacity}
use Rattle.submit_desk.specs.Passes.{DeskView, PassView}
use Rattle.node_seats.specs.Seats.{Seat}
use Rattle.cluster_users.specs.declared.looks.Looks.{Looks}
use Rattle.cluster_users.specs.Reading.{Reading}
use Rattle.node_actor.specs.declared.actor.NodeActor.{NodeActor}
use Rattle.cluster_crew.specs.declared.member.Member.{Member}
use Rattle.cluster_crew.specs.declared.room.Room.{Room}
use Rattle.cluster_crew.specs.Posts.{Post}

-- nothing is in it, and so many have room
pub record IsRoomFor {N D : Type 0} (members readers submitters : ℕ) (room : Room N D) : Type 0 where
  pub no_actors : room.actors.items ≡ []
  pub no_looks : room.looks.items ≡ []
  pub none_held : room.held.items ≡ []
  pub actors : members ≤ vec_capacity room.actors
  pub looks : readers ≤ vec_capacity room.looks
  pub held : submitters ≤ vec_capacity room.held

-- a submitter's pass of the desk at a number
abbrev pub ReturnsTo : List DeskView → ℕ → PassView → Type 0
ReturnsTo desks client pass = (pass.knows.submits ≡ true) × IsSomeAnd (slice_get desks client) (λ (d : DeskView). d.desk ≡ pass.desk)

-- what a reader kept, by its number and its consumer
abbrev pub IsKeptBy : Reading → Looks → Type 0
IsKeptBy reader looks = (looks.reader ≡ reader.number) × (looks.consumer ≡ reader.consumer) × (looks.list ≡ reader.notes.kept)

abbrev pub seats_of : List Post → List Seat
seats_of = map (λ (post : Post). post.seat)

module _ {N D P : Type 0} where
  -- the node of a member
  abbrev pub IsActorOf : Member N D P → NodeActor N D → Type 0
  IsActorOf member actor = actor ≡ member.actor
