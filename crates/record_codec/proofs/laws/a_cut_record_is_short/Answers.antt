use Rattle.record_codec.proofs.Records.{record_cut}
use Rattle.record_codec.proofs.laws.a_cut_record_is_short.Goals as goal

pub returns : goal.returns
returns c = record_cut
