-- Room for a list of actors in threads.
use Rattle.std.specs.Prelude.{◌≡◌, ℕ, ◌≤◌, [], Vec, vec_len, vec_capacity}
use Rattle.std.specs.List.{All}
use Rattle.scoped_turns.specs.declared.room.Room.{Room}

-- nothing is in it, and so many have room
pub record IsRoomFor {E A : Type 0} (count : ℕ) (room : Room E A) : Type 0 where
  pub started : room.started.items ≡ []
  pub back : room.back.items ≡ []
  pub starts : count ≤ vec_capacity room.started
  pub returns : count ≤ vec_capacity room.back

-- each actor of a list is ready, and there is room for all
pub record IsReady {E A Z : Type 0} (Ready : A → Type 0) (actors : Vec A Z) (room : Room E A) : Type 0 where
  pub each : All Ready actors.items
  pub fits : IsRoomFor (vec_len actors) room

-- all that was started has room to come back
pub record IsFilled {E A : Type 0} (room : Room E A) : Type 0 where
  pub back : room.back.items ≡ []
  pub returns : vec_len room.started ≤ vec_capacity room.back
