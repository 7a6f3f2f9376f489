-- A client is acknowledged its numbers in order, each once.
use Rattle.std.specs.Prelude.{ℕ}
use Rattle.net_model.specs.Pasts.{Past}
use Rattle.runs.specs.Marks.{IsCounted}
use Rattle.runs.specs.Truth.{acked_numbers}

abbrev pub AckedIsCounted : Past → Type 0
AckedIsCounted past = (client : ℕ) → IsCounted (acked_numbers client past)
