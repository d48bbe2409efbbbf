-- A family of addresses: the bytes of an address, each a level of arrays, and what a kind of record stands for in its feeds.
-- Assumes nothing.
--
--             an end   announcements   withdrawals   lookups   announcements for a feed   withdrawals for a feed
--     IPv4    0        1               2             3         4                          5
--     IPv6    0                                      8         6                          7
use Rattle.std.specs.Prelude.{Bool, true, false, cond, ℕ, ◌*◌, eqb}

pub data Family : Type 0 where
  v4 : Family
  v6 : Family

abbrev pub levels : Family → ℕ
levels v4 = 4
levels v6 = 16

-- the bits of an address
abbrev pub width : Family → ℕ
width F = 8 * levels F

-- ---- kinds

pub data Role : Type 0 where
  ending : Role
  announcing : Role
  withdrawing : Role
  looking : Role
  announcing_for : Role
  withdrawing_for : Role
  -- a kind of the other family, or of none
  unknown : Role

-- the kind of a role. No byte is 256: IPv6 has no announcements and withdrawals that name no feed
abbrev pub kind_of : Family → Role → ℕ
kind_of F ending = 0
kind_of v4 announcing = 1
kind_of v4 withdrawing = 2
kind_of v4 looking = 3
kind_of v4 announcing_for = 4
kind_of v4 withdrawing_for = 5
kind_of v6 announcing = 256
kind_of v6 withdrawing = 256
kind_of v6 looking = 8
kind_of v6 announcing_for = 6
kind_of v6 withdrawing_for = 7
kind_of F unknown = 256

abbrev is : Family → ℕ → Role → Role → Role
is F k r other = cond (eqb k (kind_of F r)) r other

-- the role of a kind
abbrev pub role_of : Family → ℕ → Role
role_of F k =
    is F k ending (is F k announcing
    (is F k withdrawing (is F k looking (is F k announcing_for (is F k withdrawing_for unknown)))))

abbrev pub is_unknown : Role → Bool
is_unknown ending = false
is_unknown announcing = false
is_unknown withdrawing = false
is_unknown looking = false
is_unknown announcing_for = false
is_unknown withdrawing_for = false
is_unknown unknown = true
