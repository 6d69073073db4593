-- A round with a reply of every kind, and its text by hand.
use Rattle.std.specs.Prelude.{ℕ, List, [], ◌∷◌, ◌++◌, codes}
use Rattle.lvs_types.specs.declared.service.Method.TheVariants.{Masq, Tunnel, Direct}
use Rattle.lvs_types.specs.declared.head.Malformed.TheVariants as malformed
use Rattle.lvs_types.specs.declared.item.Item.{Item}
use Rattle.lvs_types.specs.declared.reply.Reply.{Reply}
use Rattle.lvs_types.specs.declared.reply.Reply.TheVariants as reply
use Rattle.lvs_types.specs.declared.reply.DropCause.TheVariants as drops
use Rattle.lvs_types.specs.declared.reply.EditRefused.TheVariants as refused
use Rattle.lvs_types.specs.declared.sync.Learnt.TheVariants as learnt
use Rattle.lvs_types.specs.declared.sync.BadSync.TheVariants as bad
use Rattle.lvs_types.specs.declared.book.Noted.{Noted}
use Rattle.lvs_types.specs.declared.book.RoundBook.{RoundBook}
use Rattle.lvs_types.specs.declared.book.Shown.TheVariants as shown
use Rattle.lvs_model.specs.ExampleItems.{server_addr}

-- an actor's act of this number; what was asked isn't printed
abbrev pub answered : Item → ℕ → ℕ → Reply → Noted
answered asked actor number answer = record { actor = actor; number = number; item = asked; reply = answer }

-- the clock's acts, the edits, the records, and the packets of two workers; each kind of reply, those that aren't printed among them
abbrev pub replies_of_each_kind : Item → List Noted
replies_of_each_kind asked =
    answered asked 0 0 (reply.Swept 0) ∷ answered asked 0 1 (reply.Swept 2) ∷ answered asked 0 2 (reply.Reaped 1 20 0) ∷ answered asked 1 0 reply.Done
    ∷ answered asked 1 1 (reply.Refused refused.NotRunning)
    ∷ answered asked 2 0 (reply.Learnt learnt.Accepted)
    ∷ answered asked 2 1 (reply.BadMessage bad.RecordShort)
    ∷ answered asked 3 0 (reply.Forward Masq (server_addr 1) (0x45 ∷ 0 ∷ []))
    ∷ answered asked 3 1 (reply.Forward Tunnel (server_addr 7) (0x45 ∷ 0xAB ∷ []))
    ∷ answered asked 3 2 (reply.Forward Direct (server_addr 10) (0x45 ∷ 0xFF ∷ []))
    ∷ answered asked 4 0 (reply.Outward (0x45 ∷ 0x10 ∷ []))
    ∷ answered asked 4 1 reply.Pass
    ∷ answered asked 4 2 (reply.Drop drops.Gone)
    ∷ answered asked 4 3 (reply.Drop (drops.Malformed malformed.HeaderSum))
    ∷ answered asked 0 3 (reply.Sent ((0 ∷ 7 ∷ []) ∷ (1 ∷ 0xFE ∷ []) ∷ []))
    ∷ answered asked 0 4 reply.Ticked
    ∷ []

abbrev pub round_of_each_kind : Item → RoundBook
round_of_each_kind asked = record {
  number = 12;
  moment = 250;
  workers = 2;
  buckets = 2;
  acts = replies_of_each_kind asked;
  shown = record { kind = shown.Save; text = codes "-A -t 10.0.0.1:80 -s rr" ++ 10 ∷ [] } ∷ record { kind = shown.Conns; text = [] } ∷ [];
}

-- a line with its line feed
abbrev pub line : List ℕ → List ℕ
line text = text ++ 10 ∷ []

-- the places 0 and 15 show nothing
abbrev pub text_of_each_kind : List ℕ
text_of_each_kind =
    line (codes "round 12 at 250 workers 2 buckets 2")
    ++ line (codes "1 0.1 swept 2")
    ++ line (codes "2 0.2 reaped 1 20 0")
    ++ line (codes "3 1.0 ok")
    ++ line (codes "4 1.1 refused notrunning")
    ++ line (codes "5 2.0 learn accepted")
    ++ line (codes "6 2.1 badsync recordshort")
    ++ line (codes "7 3.0 fwd masq 192.168.0.1 4500")
    ++ line (codes "8 3.1 fwd tunnel 192.168.0.7 45ab")
    ++ line (codes "9 3.2 fwd direct 192.168.0.10 45ff")
    ++ line (codes "10 4.0 out 4510")
    ++ line (codes "11 4.1 pass")
    ++ line (codes "12 4.2 drop gone")
    ++ line (codes "13 4.3 drop malformed headersum")
    ++ line (codes "14 0.3 sent 0007 01fe")
    ++ line (codes "save")
    ++ line (codes "-A -t 10.0.0.1:80 -s rr")
    ++ line (codes "end")
    ++ line (codes "conns")
    ++ line (codes "end")
