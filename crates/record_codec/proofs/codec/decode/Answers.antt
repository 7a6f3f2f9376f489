use Rattle.std.proofs.Common.{arith}
use Rattle.record_codec.proofs.Records.{record_found, record_only}
use Rattle.record_codec.proofs.codec.decode.Goals as goal

pub returns-clause-found : goal.returns-clause-found
returns-clause-found c = record_found c.args.bytes.now c.record_at.result (λ i. omega (arith, c.type_inv.bytes i)) c.record_at.ensures

pub returns-clause-only : goal.returns-clause-only
returns-clause-only c = record_only c.args.bytes.now c.record_at.result c.record_at.ensures
