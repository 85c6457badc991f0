-- Sizes (document 01, "Sizes"): how a size is rounded up, its class, a class's chunk size, and how many chunks a zone has.
-- Assumes nothing.
use Rattle.std.specs.Prelude.{ℕ, ◌+◌, ◌-◌, ◌*◌, ◌/◌, cond, ltb}
use Rattle.model.specs.Numbers.{page_bytes, zone_bytes, large_size}

-- The entry in the row of the size n of document 01's table, which has seven rows.
abbrev pub row {ℓ} : {A : Type ℓ} → ℕ → A → A → A → A → A → A → A → A
row n a b c d e f g = cond (ltb n 128) a (cond (ltb n 256) b (cond (ltb n 512) c (cond (ltb n 1024) d (cond (ltb n 2048) e (cond (ltb n 4096) f g)))))

-- The step to which a size is rounded up.
unfoldable pub step : ℕ → ℕ
step n = row n 8 16 32 64 128 256 512

-- The size rounded up to a multiple of its step.
unfoldable pub rounded : ℕ → ℕ
rounded n = (n + (step n - 1)) / step n * step n

-- The class of a size below 8,192, from its rounded size c.
unfoldable pub class_of : ℕ → ℕ
class_of n =
    let c = rounded n in
    row n (c / 8 - 1) (c / 16 + 7) (c / 32 + 15) (c / 64 + 23) (c / 128 + 31) (c / 256 + 39) (c / 512 + 47)

-- The bytes of a chunk of a class: what the table gives back for the class. (`room-class`: the room of a size's class is
-- the rounded size.)
unfoldable pub room : ℕ → ℕ
room k = cond (ltb k 16) (8 * (k + 1)) (cond (ltb k 24) (16 * (k - 7)) (cond (ltb k 32) (32 * (k - 15)) (cond (ltb k 40) (64 * (k - 23)) (cond (ltb k 48) (128 * (k - 31)) (cond (ltb k 56) (256 * (k - 39)) (512 * (k - 47)))))))

-- How many chunks of c bytes a zone has, and so how many a zone of the class has.
abbrev pub chunks_of : ℕ → ℕ
chunks_of c = zone_bytes / c

unfoldable pub chunks : ℕ → ℕ
chunks k = chunks_of (room k)

-- The whole pages that a large request takes.
abbrev pub pages_for : ℕ → ℕ
pages_for n = (n + (page_bytes - 1)) / page_bytes

-- The bytes that a request of this size is given (document 01: its room).
abbrev pub room_for : ℕ → ℕ
room_for n = cond (ltb n large_size) (room (class_of n)) (pages_for n * page_bytes)
