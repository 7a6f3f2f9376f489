use Rattle.std.proofs.Common.{◌≡◌, ◌+◌, ◌≤◌, ◌++◌, length}
use Rattle.std.specs.Prelude.{vec_len}
use Rattle.std.specs.Vec.{vec_capacity}
use Rattle.node_links.proofs.link_in.LinkIn.pull_waiting.Given as goal

abbrev pub invariant-loop : goal.invariant-loop
invariant-loop l = record {
  link : l.self.link ≡ l.initial.self.link;
  frames : l.frames.items ++ l.self.waiting ≡ l.fn.frames.items ++ l.initial.self.waiting;
  received : l.self.received ++ l.self.waiting ≡ l.initial.self.received ++ l.initial.self.waiting;
  left : length l.self.waiting + l.counter ≡ l.count;
  room : vec_len l.frames + length l.self.waiting ≤ vec_capacity l.frames;
}
