-- `bench::fresh_words` meets its contract. Assumes nothing.
use Rattle.account.proofs.Accounts.{zeros-none}
use Rattle.lemmas.specs.Zeros.{zeros}
use mathlib.Core.Path.{refl}
use Rattle.bench.specs.Numbers.{bench_words}
use Rattle.bench.proofs.fresh_words.Goals as goal

pub returns : goal.returns
unfolding zeros
returns c = record {
  word_count = refl;
  value = refl;
  encodes_none = zeros-none bench_words;
}
