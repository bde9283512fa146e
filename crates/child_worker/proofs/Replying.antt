-- Replies from their parts.
use Rattle.std.proofs.Common.{◌≡◌, ℕ, ℤ, List}
use Rattle.hash_family.specs.Setting.{Setting}
use Rattle.reply_format.specs.Reply.{Replay, head_of}
use Rattle.reply_format.specs.declared.heap.Heap.{Heap}

-- replay replies with the same parts
pub same_reply : (number : ℕ) {s t : Setting} {n m v w : ℕ} {cs ds : List ℤ} {hs ks : List Heap} → s ≡ t → n ≡ m → v ≡ w
    → cs ≡ ds → hs ≡ ks
    → Replay (record { head = head_of number s n v; counters = cs; heaps = hs })
    ≡ Replay (record { head = head_of number t m w; counters = ds; heaps = ks })
same_reply number p q r counters heaps = λ i.
    Replay (record { head = head_of number (p i) (q i) (r i); counters = counters i; heaps = heaps i })
