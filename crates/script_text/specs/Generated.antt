-- The plan that is generated from a seed and a size: as a text, and as what that text spells.
use Rattle.std.specs.Prelude.{ℕ, zero, suc, ◌+◌, ◌*◌, ◌%◌, List, [], ◌∷◌, ◌++◌, codes, decimal}
use Rattle.rand_core.specs.Pcg32Seed.{pcg32_seed}
use Rattle.rand_pcg.specs.Lcg.{Lcg}
use Rattle.rand_pcg.specs.Pcg.{pcg32, pcg32_of_seed}
use Rattle.msg_wire.specs.Names.sides
use Rattle.msg_wire.specs.Names.nodes
use Rattle.script_text.specs.Names.{Config, Plan, PlanLine}
use Rattle.script_text.specs.Names.apps
use Rattle.script_text.specs.Names.commands
use Rattle.script_text.specs.Names.plan_lines

-- ---- the numbers

-- the generator of a seed
abbrev pub seeded : ℕ → Lcg
seeded seed = pcg32_of_seed (pcg32_seed 16 seed)

-- the number in the next body: a word modulo 1,000
abbrev pub number_of_word : Lcg → ℕ
number_of_word g = (pcg32 g).0 % 1000

-- the generator after a word
abbrev pub after_word_of : Lcg → Lcg
after_word_of g = (pcg32 g).1

-- ---- the text

unfoldable pub submit_line : ℕ → ℕ → List ℕ
submit_line by number = codes "submit " ++ decimal by ++ codes " " ++ decimal number ++ codes "\n"

-- so many bodies from the k-th on, which are the submitters' in turn, 0 to 3
abbrev pub submit_lines : ℕ → ℕ → Lcg → List ℕ
submit_lines k zero g = []
submit_lines k (suc count) g = submit_line (k % 4) (number_of_word g) ++ submit_lines (k + 1) count (after_word_of g)

-- the ten lines of the head
unfoldable pub generated_head : ℕ → List ℕ
generated_head seed =
    codes "belfast-plan 1\n" ++ codes "seqs 3\n" ++ codes "shards 3\n" ++ codes "window 16 0:4 1:4 2:4\n" ++ codes "clients 0 1 2 0\n" ++ codes "consumers 2 tally\n"
    ++ codes "readers 0 1 0 1\n" ++ codes "submitters 0 1 2 3\n" ++ codes "faults " ++ decimal seed ++ codes " 5 2 2 0\ndrain 120000 300\n"

-- the lines after the bodies
unfoldable pub generated_end : List ℕ
generated_end =
    codes "episode 400\n" ++ codes "restart s1b\n" ++ codes "episode 400\n" ++ codes "remove q0 2\n" ++ codes "episode 400\n" ++ codes "restart k0\n" ++ codes "episode 400\n"

-- `size` bodies of each of the four submitters
unfoldable pub generated_plan : ℕ → ℕ → List ℕ
generated_plan seed size = generated_head seed ++ submit_lines 0 (4 * size) (seeded seed) ++ generated_end

-- ---- what it spells

abbrev pub generated_cluster : Config
generated_cluster = record {
  seqs = 3;
  shards = 3;
  rounds = 16;
  table = record { shard = 0; quota = 4 } ∷ record { shard = 1; quota = 4 } ∷ record { shard = 2; quota = 4 } ∷ [];
  homes = 0 ∷ 1 ∷ 2 ∷ 0 ∷ [];
  consumers = 2;
  app = apps.Tally;
}

abbrev pub submissions : ℕ → ℕ → Lcg → List PlanLine
submissions k zero g = []
submissions k (suc count) g = plan_lines.Submit (k % 4) (decimal (number_of_word g)) ∷ submissions (k + 1) count (after_word_of g)

abbrev pub generated_turns : List PlanLine
generated_turns =
    plan_lines.Episode 400 ∷ plan_lines.Restart (nodes.Shard 1 sides.Backup) ∷ plan_lines.Episode 400
    ∷ plan_lines.Command (nodes.Seq 0) (commands.Remove 2) ∷ plan_lines.Episode 400 ∷ plan_lines.Restart (nodes.Consumer 0) ∷ plan_lines.Episode 400 ∷ []

abbrev pub generated : ℕ → ℕ → Plan
generated seed size = record {
  cfg = generated_cluster;
  readers = 0 ∷ 1 ∷ 0 ∷ 1 ∷ [];
  submitters = 0 ∷ 1 ∷ 2 ∷ 3 ∷ [];
  seed = seed;
  lose = 5;
  repeat = 2;
  late = 2;
  cut = 0;
  limit = 120000;
  settle = 300;
  lines = submissions 0 (4 * size) (seeded seed) ++ generated_turns;
}
