use Rattle.std.proofs.Common.{arith}
use Rattle.smbios.proofs.StructureLemmas.{short_length, long_length}
use Rattle.smbios.proofs.structures.formatted_len.Goals as goal

pub returns-then-len-lt-HEAD : goal.returns-then-len-lt-HEAD
returns-then-len-lt-HEAD c = short_length c.args.bytes.now c.byte_at-len.result c.byte_at-len.ensures (omega arith)

pub returns-then-bytes-len : goal.returns-then-bytes-len
returns-then-bytes-len c = long_length c.args.bytes.now c.byte_at-len.result c.byte_at-len.ensures (omega arith)
