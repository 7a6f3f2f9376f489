-- The lines of each client.
use Rattle.std.specs.Prelude.{ℕ, List, ◌++◌, length, flat_map, codes}
use Rattle.std.specs.List.{range_with_len}
use Rattle.net_model.specs.Pasts.{Past, marks_of, submissions_of}
use Rattle.runs.specs.Names.{Config}
use Rattle.runs.specs.Names.nodes
use Rattle.runs.specs.Marks.{acks}
use Rattle.report_text.specs.Lines.{counted, ended}

unfoldable pub client_line : ℕ → ℕ → ℕ → List ℕ
client_line number submitted acked = ended (counted (codes "client c") number ++ counted (codes " submitted ") submitted ++ counted (codes " acked ") acked)

-- a number, and the position where its record stands
unfoldable pub ack_line : ℕ → ℕ × ℕ → List ℕ
ack_line number ack = ended (counted (codes "ack c") number ++ counted (codes " ") ack.0 ++ counted (codes " ") ack.1)

abbrev pub lines_of_acks : ℕ → ℕ → List (ℕ × ℕ) → List ℕ
lines_of_acks number submitted acked = client_line number submitted (length acked) ++ flat_map (ack_line number) acked

abbrev pub lines_of_client : Past → ℕ → List ℕ
lines_of_client past number = lines_of_acks number (length (submissions_of (nodes.Client number) past)) (acks (marks_of (nodes.Client number) past))

-- of each client in order
abbrev pub client_lines : Config → Past → List ℕ
client_lines cfg past = flat_map (lines_of_client past) (range_with_len 0 (length cfg.homes))
