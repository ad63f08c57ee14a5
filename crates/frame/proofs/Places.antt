-- Status bytes and levels, sync words and which they are: from the one to the other and back.
-- Assumes nothing.
use mathlib.Core.Logic.{◌⊎◌, inl, inr}
use mathlib.Core.Path.{◌≡◌, refl, sym}
use Prim.Native.Nat.{ℕ, zero, suc, ◌<◌, ◌≤◌}
use native.Mathlib.Omega.{arith}
use lib.ListN.{get_or}
use Rattle.octets.specs.Choice.{place_in}
use Rattle.octets.proofs.Deciding.{at_place}
use Rattle.linear.proofs.Row.{same}
use Rattle.frame.specs.Frame.{statuses, status_by, fsyncs, fsync_by}

-- the level of a level's status byte, and which a sync word is
pub level_back : (level : ℕ) → level < 4 → place_in statuses (status_by level) ≡ level
level_back level h = same (λ l. place_in statuses (status_by l)) (λ l. l) 4 refl level h

pub fsync_back : (which : ℕ) → which < 2 → place_in fsyncs (fsync_by which) ≡ which
fsync_back which h = same (λ w. place_in fsyncs (fsync_by w)) (λ w. w) 2 refl which h

-- the sync word is the one or the other
abbrev pub OneFsync : ℕ → Type 0
OneFsync n = (n ≡ 0x073AB6) ⊎ (n ≡ 0xF8C549)

pub fsync_one : (n : ℕ) → place_in fsyncs n ≤ 1 → OneFsync n
fsync_one n h = go (place_in fsyncs n) h (at_place fsyncs n (omega arith))
  where
    go : (k : ℕ) → k ≤ 1 → get_or fsyncs k 0 ≡ n → OneFsync n
    go zero l e = inl (sym e)
    go (suc zero) l e = inr (sym e)
    go (suc (suc k)) l e = absurd (omega arith)

pub fsync_placed : (n : ℕ) → OneFsync n → place_in fsyncs n ≤ 1
fsync_placed n (inl e) = rw e (omega arith)
fsync_placed n (inr e) = rw e (omega arith)

-- the status byte is one of the four
abbrev pub OneStatus : ℕ → Type 0
OneStatus n = (n ≡ 0xFF) ⊎ ((n ≡ 0xF0) ⊎ ((n ≡ 0x0F) ⊎ (n ≡ 0x00)))

pub status_one : (n : ℕ) → place_in statuses n ≤ 3 → OneStatus n
status_one n h = go (place_in statuses n) h (at_place statuses n (omega arith))
  where
    go : (k : ℕ) → k ≤ 3 → get_or statuses k 0 ≡ n → OneStatus n
    go zero l e = inl (sym e)
    go (suc zero) l e = inr (inl (sym e))
    go (suc (suc zero)) l e = inr (inr (inl (sym e)))
    go (suc (suc (suc zero))) l e = inr (inr (inr (sym e)))
    go (suc (suc (suc (suc k)))) l e = absurd (omega arith)

pub status_placed : (n : ℕ) → OneStatus n → place_in statuses n ≤ 3
status_placed n (inl e) = rw e (omega arith)
status_placed n (inr (inl e)) = rw e (omega arith)
status_placed n (inr (inr (inl e))) = rw e (omega arith)
status_placed n (inr (inr (inr e))) = rw e (omega arith)
