-- The numbers of the bench program (document 01, "The bench program and one whole session"). Assumes nothing.
use Rattle.std.specs.Prelude.{ℕ}
use Rattle.model.specs.Perform.{all_words}

-- Its words are enough for so many pages, ..
abbrev pub bench_pages : ℕ
bench_pages = 24

-- .. so there are 13,568.
abbrev pub bench_words : ℕ
bench_words = all_words bench_pages

-- The room for one reply: that of the longest listing of so many pages (`reply-room`). Every other reply is shorter.
abbrev pub reply_room : ℕ
reply_room = 207
