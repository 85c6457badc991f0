-- Document 01's worked examples, computed: the table of "Both sides of each edge" that is marked to be proved, the whole session
-- with its two listings, the nine-request case and the thirteen-request case; and cases of document 02's rules. Modules are checked by
-- their names, and this is the first of them: a wrong rule is refused for an answer of the papers and not for a law about it. Assumes
-- nothing.
use Prim.Native.Nat.{ℕ, zero, suc, ◌+◌}
use mathlib.Core.Path.{◌≡◌, refl}
use mathlib.Core.List.{List, [], ◌∷◌, ◌++◌, map}
use mathlib.Core.Option.{Option, none, some}
use mathlib.Core.Bool.{cond}
use lib.Dec.{ltb}
use Rattle.model.specs.Numbers.{large_size}
use Rattle.model.specs.declared.Operation.TheVariants.{Allocate, Free, Reset}
use Rattle.model.specs.declared.Refusal.TheVariants.{NoState, BadGroup, BadSize, OverCeiling, NoRoom, OtherGroup}
use Rattle.model.specs.declared.Answer.{Answer}
use Rattle.model.specs.declared.Answer.TheVariants.{Granted, Denied, Refused, Done, Counted, Block}
use Rattle.model.specs.Sizes.{step, rounded, class_of, room, chunks_of, chunks, pages_for}
use Rattle.model.specs.State.{list_of}
use Rattle.model.specs.declared.Holding.{Holding}
use Rattle.model.specs.Holdings.{Account, holdings_of}
use Rattle.model.specs.PageMap.{page_map}
use Rattle.model.specs.Pages.{claim}
use Rattle.model.specs.Allocate.{sought}
use Rattle.model.specs.Calls.{group, trim, query, ceiling, Command, init, act}
use Rattle.model.specs.Ascii.{ascii}
use Rattle.model.specs.Text.{digits, decimal, line, lines}
use Rattle.model.specs.Listing.{section, listing_text}
use Rattle.model.specs.Perform.{Metadata, all_words, perform}
use Rattle.lemmas.specs.ListFrom.{list_from}
use Rattle.lemmas.specs.Every.{count}
use Rattle.lemmas.specs.Keep.{keep}
use Rattle.lemmas.specs.Times.{times, remove}

-- The table marked P. A size gives a chunk (its room and class) or is whole pages; of chunks of a size a zone has so many.
pub data Case : Type 0 where
  size : ℕ → Case
  chunks_of_size : ℕ → Case

pub data Share : Type 0 where
  gives : ℕ → ℕ → Share
  is_pages : ℕ → Share
  has : ℕ → Share

pub share : Case → Share
share (size n) = cond (ltb n large_size) (gives (room (class_of n)) (class_of n)) (is_pages (pages_for n))
share (chunks_of_size c) = has (chunks_of c)

pub table : List (Case × Share)
table =
    (size 1, gives 8 0)
    ∷ (size 127, gives 128 15)
    ∷ (size 128, gives 128 15)
    ∷ (size 129, gives 144 16)
    ∷ (size 255, gives 256 23)
    ∷ (size 257, gives 288 24)
    ∷ (size 8191, gives 8192 63)
    ∷ (size 8192, is_pages 2)
    ∷ (size 8193, is_pages 3)
    ∷ (size 1048576, is_pages 256)
    ∷ (chunks_of_size 8, has 4096)
    ∷ (chunks_of_size 104, has 315)
    ∷ (chunks_of_size 144, has 227)
    ∷ (chunks_of_size 8192, has 4)
    ∷ []

-- In every row the rules give what the row says.
pub edges : map (λ row. share row.0) table ≡ map (λ row. row.1) table
unfolding share table step rounded class_of room
edges = refl

-- The calls as document 01's lines have them.
abbrev pub s : ℕ → Command
s n = init n

abbrev pub q : ℕ → ℕ → Command
q g n = act (group (record { group = g; operation = Allocate n }))

abbrev pub r : ℕ → ℕ → Command
r g o = act (group (record { group = g; operation = Free o }))

abbrev pub x : ℕ → Command
x g = act (group (record { group = g; operation = Reset }))

abbrev pub t : Command
t = act trim

abbrev pub b : ℕ → Command
b o = act (query o)

-- What the lent words hold after some calls, and what the calls answered.
pub leaves : Metadata → List Command → Metadata
leaves m [] = m
leaves m (c ∷ l) = leaves (perform m c).after l

pub replies : Metadata → List Command → List Answer
replies m [] = []
replies m (c ∷ l) = (perform m c).answer ∷ replies (perform m c).after l

-- The bench program's words when it begins: 13,568, holding no state.
pub blank : Metadata
blank = record { words = 13568; account = none }

pub text : Option Account → List ℕ
text none = []
text (some a) = listing_text (page_map a.state)

pub morning : List Command
morning = s 24 ∷ q 1 100 ∷ q 2 100 ∷ q 3 9000 ∷ q 1 8191 ∷ r 2 0 ∷ r 1 0 ∷ q 2 97 ∷ []

pub afternoon : List Command
afternoon = x 1 ∷ q 4 24576 ∷ t ∷ q 4 24576 ∷ []

pub session-answers : replies blank (morning ++ (b 104 ∷ afternoon)) ≡
    Done ∷ Granted 0 1 ∷ Granted 104 0 ∷ Granted 32768 1 ∷ Granted 45056 1 ∷ Refused OtherGroup ∷ Done ∷ Granted 208 0 ∷ Block 2 104
    ∷ Counted 1 ∷ Granted 45056 2 ∷ Counted 0 ∷ Granted 69632 1 ∷ []
unfolding replies blank morning afternoon step rounded class_of room chunks claim sought remove keep times count
session-answers = refl

pub first-listing : text (leaves blank morning).account ≡ ascii "runs 1\n19 5\ndirect 1\n8 3 3\nzones 2\n0 12 2\n11 63 1\n"
unfolding leaves blank morning text step rounded class_of room chunks claim sought remove keep listing_text section ascii line lines decimal digits times count
first-listing = refl

pub second-listing : text (leaves blank (morning ++ afternoon)).account ≡ ascii "runs 1\n23 1\ndirect 3\n8 3 3\n11 6 4\n17 6 4\nzones 1\n0 12 2\n"
unfolding leaves blank morning afternoon text step rounded class_of room chunks claim sought remove keep listing_text section ascii line lines decimal digits times count
second-listing = refl

-- What each group holds then (document 02, c). Group 1 held 104 and 8,192 bytes at once; its blocks came back.
pub held : Option Account → List Holding
held none = []
held (some a) = holdings_of a

pub holds : ℕ → ℕ → ℕ → Holding
holds b h g = record { blocks = b; held = h; greatest = g }

pub session-holdings : held (leaves blank (morning ++ afternoon)).account ≡
    holds 0 0 8296 ∷ holds 2 208 208 ∷ holds 1 12288 12288 ∷ holds 2 49152 49152 ∷ holds 0 0 0 ∷ holds 0 0 0
    ∷ holds 0 0 0 ∷ holds 0 0 0 ∷ holds 0 0 0 ∷ holds 0 0 0 ∷ holds 0 0 0 ∷ holds 0 0 0 ∷ []
unfolding leaves blank morning afternoon held holds step rounded class_of room chunks claim sought remove keep list_from times count
session-holdings = refl

-- The nine-request case -----------------------------------------------------------------------------------------------------

-- n requests of 8,191 bytes, and the returns of the blocks that they are granted one after another in a fresh arena.
pub requests : ℕ → List Command
requests zero = []
requests (suc n) = q 1 8191 ∷ requests n

pub returns : ℕ → ℕ → List Command
returns zero o = []
returns (suc n) o = r 1 o ∷ returns n (o + 8192)

-- The lists: of class 63, and the empty list.
pub lists_of : Option Account → List ℕ × List ℕ
lists_of none = ([], [])
lists_of (some a) = (list_of a.state 63, a.state.spare)

pub nine : List Command
nine = s 24 ∷ (requests 9 ++ returns 9 0)

-- All nine returned leave two zones on the empty list and one on its class's list, and no free page; ..
pub nine-lists : (lists_of (leaves blank nine).account ≡ (16 ∷ [], 8 ∷ 0 ∷ [])) × (text (leaves blank nine).account ≡ ascii "runs 0\ndirect 0\nzones 3\n0 63 0\n8 63 0\n16 63 0\n")
unfolding leaves blank nine requests returns lists_of text step rounded class_of room chunks claim sought remove keep listing_text section ascii line lines decimal digits times count
nine-lists = (refl, refl)

-- .. 32,768 bytes are then granted, with all three zones given back: trim answers 0.
pub nine-answers : replies (leaves blank nine) (q 1 32768 ∷ t ∷ q 1 32768 ∷ []) ≡ Granted 0 1 ∷ Counted 0 ∷ Granted 32768 1 ∷ []
unfolding leaves replies blank nine requests returns step rounded class_of room chunks claim sought remove keep times count
nine-answers = refl

-- 32 pages, thirteen such requests, the first twelve returned in order: the third zone is given back at once.
pub thirteen : List Command
thirteen = s 32 ∷ (requests 13 ++ returns 12 0)

pub thirteen-listing : text (leaves (record { words = all_words 32; account = none }) thirteen).account ≡ ascii "runs 1\n16 8\ndirect 0\nzones 3\n0 63 0\n8 63 0\n24 63 1\n"
unfolding leaves thirteen requests returns text step rounded class_of room chunks claim sought remove keep listing_text section ascii line lines decimal digits times count
thirteen-listing = refl

-- The rules that these cases do not show --------------------------------------------------------------------------------------

-- The second search. A zone without a live chunk stays as long as a run suffices.
pub one-search : replies blank (s 24 ∷ q 1 100 ∷ r 1 0 ∷ q 2 65536 ∷ t ∷ []) ≡ Done ∷ Granted 0 1 ∷ Done ∷ Granted 32768 1 ∷ Counted 1 ∷ []
unfolding replies blank step rounded class_of room chunks claim sought remove keep times count
one-search = refl

-- Three such zones, one on the list of each class, and no free page. A fourth class needs 8 pages: all three are given back. With a
-- live chunk in the middle one, 9 pages are refused, and nothing is given back.
pub three : List Command
three = s 24 ∷ q 1 8191 ∷ q 2 100 ∷ q 3 200 ∷ r 1 0 ∷ r 3 65536 ∷ []

pub second-search : (replies blank (three ++ (r 2 32768 ∷ q 4 300 ∷ t ∷ [])) ≡ Done ∷ Granted 0 1 ∷ Granted 32768 1 ∷ Granted 65536 1 ∷ Done ∷ Done ∷ Done ∷ Granted 0 1 ∷ Counted 0 ∷ [])
    × (text (leaves blank (three ++ (r 2 32768 ∷ q 4 300 ∷ []))).account ≡ ascii "runs 1\n8 16\ndirect 0\nzones 1\n0 25 1\n")
    × (replies (leaves blank three) (q 4 36864 ∷ t ∷ []) ≡ Denied NoRoom 2 ∷ Counted 2 ∷ [])
unfolding leaves replies blank three text step rounded class_of room chunks claim sought remove keep listing_text section ascii line lines decimal digits times count
second-search = (refl, refl, refl)

-- Two runs are long enough: the first is taken. Pages that come back join with the runs on both sides.
pub first-run-taken : (replies blank (s 24 ∷ q 1 8192 ∷ q 2 8192 ∷ q 3 8192 ∷ r 1 0 ∷ q 4 8192 ∷ []) ≡ Done ∷ Granted 0 1 ∷ Granted 8192 1 ∷ Granted 16384 1 ∷ Done ∷ Granted 0 1 ∷ [])
    × (text (leaves blank (s 24 ∷ q 1 8192 ∷ q 2 8192 ∷ q 3 8192 ∷ q 4 8192 ∷ r 1 0 ∷ r 3 16384 ∷ r 2 8192 ∷ [])).account ≡ ascii "runs 2\n0 6\n8 16\ndirect 1\n6 2 4\nzones 0\n")
unfolding leaves replies blank text step rounded class_of room chunks claim sought remove keep listing_text section ascii line lines decimal digits times count
first-run-taken = (refl, refl)

-- A zone from the empty list is set up anew: its chunks are handed out from chunk 0 on.
pub set-up-anew : replies (leaves blank nine) (q 2 100 ∷ q 2 100 ∷ r 2 32768 ∷ q 2 100 ∷ x 2 ∷ []) ≡ Granted 32768 0 ∷ Granted 32872 0 ∷ Done ∷ Granted 32976 0 ∷ Counted 2 ∷ []
unfolding leaves replies blank nine requests returns step rounded class_of room chunks claim sought remove keep times count
set-up-anew = refl

-- How far it looked (document 02, b) --------------------------------------------------------------------------------------------

-- Runs at pages 0 (2 pages), 4 (2) and 8 (16): 3 pages are found in the third. Then 24 pages are in none of them, nor after trim, where
-- nothing is to be given back: both searches look at all three.
pub blocks : List Command
blocks = s 24 ∷ q 1 8192 ∷ q 2 8192 ∷ q 1 8192 ∷ q 2 8192 ∷ r 1 0 ∷ r 1 16384 ∷ []

pub runs-counted : replies (leaves blank blocks) (q 3 8192 ∷ r 3 0 ∷ q 3 8193 ∷ q 3 98304 ∷ []) ≡ Granted 0 1 ∷ Done ∷ Granted 32768 3 ∷ Denied NoRoom 6 ∷ []
unfolding leaves replies blank blocks step rounded class_of room chunks claim sought remove keep times count
runs-counted = refl

-- Runs at pages 0 (2 pages), 10 (2) and 14 (10), and between the first two a zone without a live chunk. After trim there are two, of 12
-- pages and of 10: 13 pages are refused after three runs and two, 11 pages are found after three and one.
pub between : List Command
between = s 24 ∷ q 1 8192 ∷ q 1 100 ∷ q 1 8192 ∷ q 2 8192 ∷ r 1 0 ∷ r 1 8192 ∷ r 1 40960 ∷ []

pub both-counted : (replies (leaves blank between) (q 3 53248 ∷ q 3 45056 ∷ []) ≡ Denied NoRoom 5 ∷ Granted 0 4 ∷ [])
    × (text (leaves blank between).account ≡ ascii "runs 3\n0 2\n10 2\n14 10\ndirect 1\n12 2 2\nzones 1\n2 12 0\n")
unfolding leaves replies blank between text step rounded class_of room chunks claim sought remove keep listing_text section ascii line lines decimal digits times count
both-counted = (refl, refl)

-- Refused before any search.
pub none-counted : replies blank (q 1 100 ∷ r 1 0 ∷ s 24 ∷ q 13 100 ∷ r 13 0 ∷ q 1 0 ∷ []) ≡ Denied NoState 0 ∷ Refused NoState ∷ Done ∷ Denied BadGroup 0 ∷ Refused BadGroup ∷ Denied BadSize 0 ∷ []
unfolding replies blank step rounded class_of room chunks claim sought remove keep times count
none-counted = refl

-- Ceilings (document 02, e) -----------------------------------------------------------------------------------------------------

abbrev pub limit : ℕ → ℕ → Command
limit g n = act (ceiling g n)

-- Two blocks of 104 bytes reach the ceiling of 208 and do not pass it; one byte more, which takes 8, would. Another group is not touched.
-- Below what is held the ceiling takes nothing away. After a return the group is granted as much again once that is within the ceiling, by
-- its room, 104 bytes, and not by its size, 97.
pub ceiling-met : replies blank (s 24 ∷ limit 1 208 ∷ q 1 97 ∷ q 1 104 ∷ q 1 1 ∷ q 2 1 ∷ limit 1 50 ∷ b 104 ∷ r 1 0 ∷ q 1 1 ∷ limit 1 207 ∷ q 1 97 ∷ limit 1 208 ∷ q 1 97 ∷ [])
    ≡ Done ∷ Done ∷ Granted 0 1 ∷ Granted 104 0 ∷ Denied OverCeiling 0 ∷ Granted 32768 1 ∷ Done ∷ Block 1 104 ∷ Done ∷ Denied OverCeiling 0 ∷ Done
    ∷ Denied OverCeiling 0 ∷ Done ∷ Granted 208 0 ∷ []
unfolding replies blank step rounded class_of room chunks claim sought remove keep times count
ceiling-met = refl

-- A setting tests 3, 4 and 5; a request 3, 4, 5, 10 and 6. A refused setting leaves the ceiling.
pub ceiling-order : replies blank (limit 1 0 ∷ s 24 ∷ limit 1 0 ∷ limit 13 1048577 ∷ limit 0 0 ∷ limit 1 1048577 ∷ q 13 0 ∷ q 1 0 ∷ q 1 1048577 ∷ q 1 1048576 ∷ q 1 1 ∷ q 2 1048576 ∷ [])
    ≡ Refused NoState ∷ Done ∷ Done ∷ Refused BadGroup ∷ Refused BadGroup ∷ Refused BadSize ∷ Denied BadGroup 0 ∷ Denied BadSize 0 ∷ Denied BadSize 0
    ∷ Denied OverCeiling 0 ∷ Denied OverCeiling 0 ∷ Denied NoRoom 2 ∷ []
unfolding replies blank step rounded class_of room chunks claim sought remove keep times count
ceiling-order = refl

-- A start sets every ceiling to 1,048,576 bytes. So that much is refused to a group that holds anything; of a group that holds nothing
-- the runs decide.
pub ceiling-started : replies blank (s 24 ∷ limit 1 0 ∷ limit 12 0 ∷ s 24 ∷ q 12 1 ∷ q 1 1048576 ∷ q 12 1048576 ∷ []) ≡ Done ∷ Done ∷ Done ∷ Done ∷ Granted 0 1 ∷ Denied NoRoom 2 ∷ Denied OverCeiling 0 ∷ []
unfolding replies blank step rounded class_of room chunks claim sought remove keep times count
ceiling-started = refl
