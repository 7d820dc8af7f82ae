use Rattle.std.proofs.Common.{refl}
use Rattle.md5.specs.Md5.{block_words, rounds, compress, hash_after, digest_bytes, md5}
use Rattle.hex.specs.Hex.{encode_with}
use Rattle.digest_handler.specs.Credentials.{first_fields}
use Rattle.digest_handler.proofs.examples.rfc_2617.Goals as goal

pub returns : goal.returns
unfolding block_words rounds compress hash_after digest_bytes md5 encode_with first_fields
returns c = record { a1 = refl; a2 = refl; text = refl }
