use Rattle.gate_vault.proofs.Again.{told_torn_then, on_err_then, follows_then, elapses_then}
use Rattle.gate_vault.proofs.twice.write_twice.Goals as goal

pub returns-in-Err-Failed-clause-torn : goal.returns-in-Err-Failed-clause-torn
returns-in-Err-Failed-clause-torn g c =
    on_err_then _ _ _ (told_torn_then _ _ _ _ _ c.in-Err-Failed.ensures.torn) c.write_at-in-Err-Failed.ensures.torn

pub returns-in-Err-Failed-clause-crash : goal.returns-in-Err-Failed-clause-crash
returns-in-Err-Failed-clause-crash g c =
    follows_then _ _ _ _ _ c.in-Err-Failed.ensures.crash c.write_at-in-Err-Failed.ensures.crash

pub returns-in-Err-Failed-clause-time : goal.returns-in-Err-Failed-clause-time
returns-in-Err-Failed-clause-time g c =
    elapses_then _ _ _ _ _ _ _ _ _ c.in-Err-Failed.ensures.time c.write_at-in-Err-Failed.ensures.time c.in-Err-Failed.ensures.crash
    (follows_then _ _ _ _ _ c.in-Err-Failed.ensures.crash c.write_at-in-Err-Failed.ensures.crash)
