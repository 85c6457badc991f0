-- The numbers of document 01 that several rules use, each under one name. Definitions, contracts and proofs cite the names. Assumes nothing.
use Rattle.std.specs.Prelude.{ℕ}

-- The bytes of a page; the pages and the bytes of a zone.
abbrev pub page_bytes : ℕ
page_bytes = 4096

abbrev pub zone_pages : ℕ
zone_pages = 8

abbrev pub zone_bytes : ℕ
zone_bytes = 32768

-- The size from which a request takes whole pages, and the largest that may be asked for; it is the largest ceiling too.
abbrev pub large_size : ℕ
large_size = 8192

abbrev pub most_bytes : ℕ
most_bytes = 1048576

-- Groups are 1 to this.
abbrev pub most_group : ℕ
most_group = 12

-- How many classes there are; they count from 0.
abbrev pub class_count : ℕ
class_count = 64

-- Arenas have 1 to so many pages.
abbrev pub most_pages : ℕ
most_pages = 256

-- The empty list holds so many zones at most.
abbrev pub most_spare : ℕ
most_spare = 2

-- The words of the groups' figures, the words of the header behind them, and the words of a page.
abbrev pub figure_words : ℕ
figure_words = 64

abbrev pub header_words : ℕ
header_words = 1024

abbrev pub page_words : ℕ
page_words = 520
