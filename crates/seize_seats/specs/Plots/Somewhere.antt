-- Where words of a block's own lie.
use Rattle.std.specs.Prelude.{◌≡◌, ℕ, ◌<◌, ◌^◌, Bool, true, false, nat_lt}
use denote.RawPtr.{Ptr, null_ptr, block_ptr}

abbrev pub is_somewhere : Ptr → Bool
is_somewhere null_ptr = false
is_somewhere (block_ptr b o) = true

-- So many may lie there: at null where they are none, else in a block of memory. They are not too many for one.
abbrev pub AreBeside : Ptr → ℕ → Type 0
AreBeside p n = (is_somewhere p ≡ nat_lt 0 n) × (n < 2 ^ 60)
