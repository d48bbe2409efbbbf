-- What the passes ask for, and what they leave. Assumes nothing.
use Rattle.std.specs.Prelude.{◌≡◌, List, ℕ, ◌+◌, ◌-◌, ◌*◌, ◌^◌, ◌≤◌, ◌<◌, length}
use Rattle.routes.specs.Family.{v4}
use Rattle.routes.specs.Route.{Route}
use Rattle.routes.specs.Collect.{own}
use Rattle.candidates.specs.Bytes.{all_bytes, plainly}
use Rattle.words.specs.Words.{arrays_of, array_count}
use Rattle.words.specs.TableBut.{Table}
use Rattle.writing.specs.Halves.{InSlot}
use Rattle.sweep.specs.Walk.{won_at, hop_in, set_at, cost_at, store_at, routes_at}

-- the prefix v with some bits below it stands in slot p of a table
pub record Stands (ws : List ℕ) (p v bits : ℕ) : Type 0 where
  pub table : Table 4 ws
  pub most : bits ≤ 32
  pub slot : InSlot (array_count ws) 4 (arrays_of ws) p v (32 - bits)

-- no winning hop of the table is over 32
abbrev pub Small : List ℕ → Type 0
Small ws = (p v bits : ℕ) → Stands ws p v bits → won_at ws p ≤ 32

-- small_hops: the slot of a prefix
pub record Looks (ws : List ℕ) (p bits : ℕ) : Type 0 where
  pub v : ℕ
  pub stands : Stands ws p v bits

-- spread: the slot of a prefix, and the room
pub record Spreads (ws : List ℕ) (p bits : ℕ) (ms : List ℕ) : Type 0 where
  pub v : ℕ
  pub stands : Stands ws p v bits
  pub size : length ws ≤ length ms

-- keep_sets: the slot of a prefix in a table of small hops; below it every address has a hop
pub record KeepsSets (ws : List ℕ) (p bits h : ℕ) (ms : List ℕ) : Type 0 where
  pub v : ℕ
  pub stands : Stands ws p v bits
  pub small : Small ws
  pub some : 1 ≤ hop_in ws p h
  pub low : h ≤ 32
  pub size : length ws ≤ length ms

-- and what it leaves
pub record HasKept (ws : List ℕ) (p bits h : ℕ) (ms : List ℕ) (s cost : ℕ) (ns : List ℕ) : Type 0 where
  pub set : s ≡ set_at ws bits p h
  pub price : cost ≡ cost_at ws bits p h
  pub list : ns ≡ store_at ws bits p h ms

-- the bytes of routes as kind 1 records
unfoldable pub bytes_of : List Route → List ℕ
bytes_of rs = all_bytes v4 (plainly rs)

-- those of the route of the prefix v with some bits below it, none for hop 0
unfoldable pub bytes_own : ℕ → ℕ → ℕ → List ℕ
bytes_own bits v hop = bytes_of (own bits v (32 - bits) hop)

-- put: an address of 32 bits, and the room
pub record Puts (hop v bits : ℕ) (b : List ℕ) (at : ℕ) : Type 0 where
  pub most : bits ≤ 32
  pub small : v * 2 ^ bits < 4294967296
  pub room : at + length (bytes_own bits v hop) ≤ length b

-- put_routes: the slot of the prefix v, and the room
pub record PutsRoutes (ws ms : List ℕ) (p v bits h : ℕ) (b : List ℕ) (at : ℕ) : Type 0 where
  pub stands : Stands ws p v bits
  pub low : h ≤ 33
  pub size : length ws ≤ length ms
  pub room : at + length (bytes_of (routes_at ws ms bits p v h)) ≤ length b
