-- The text of a report: heads, acts and listings, each line with its line feed (this project's profile).
use Rattle.std.specs.Prelude.{ℕ, ◌+◌, ◌/◌, ◌%◌, List, [], ◌∷◌, ◌++◌, Bool, true, false, ◌&&◌, ◌==◌, not, if◌then◌else◌, codes, decimal}
use Rattle.hex.specs.Hex.{encode_lower}
use Rattle.lvs_types.specs.declared.addr.Addr.{Addr}
use Rattle.lvs_types.specs.declared.service.Method.{Method}
use Rattle.lvs_types.specs.declared.service.Method.TheVariants.{Masq, Tunnel, Direct}
use Rattle.lvs_types.specs.declared.head.Malformed.{Malformed}
use Rattle.lvs_types.specs.declared.head.Malformed.TheVariants as malformed
use Rattle.lvs_types.specs.declared.sync.BadSync.{BadSync}
use Rattle.lvs_types.specs.declared.sync.BadSync.TheVariants as bad
use Rattle.lvs_types.specs.declared.sync.Learnt.{Learnt}
use Rattle.lvs_types.specs.declared.sync.Learnt.TheVariants as learnt
use Rattle.lvs_types.specs.declared.reply.DropCause.{DropCause}
use Rattle.lvs_types.specs.declared.reply.DropCause.TheVariants as drops
use Rattle.lvs_types.specs.declared.reply.EditRefused.{EditRefused}
use Rattle.lvs_types.specs.declared.reply.EditRefused.TheVariants as refused
use Rattle.lvs_types.specs.declared.reply.Reply.{Reply}
use Rattle.lvs_types.specs.declared.reply.Reply.TheVariants as reply
use Rattle.lvs_types.specs.declared.book.Noted.{Noted}
use Rattle.lvs_types.specs.declared.book.RoundBook.{RoundBook}
use Rattle.lvs_types.specs.declared.book.Shown.{Shown}
use Rattle.lvs_types.specs.declared.book.Shown.TheVariants as shown
use Rattle.lvs_types.specs.declared.book.ShownText.{ShownText}

-- four decimal numbers joined by dots (RFC 791, section 3.2)
abbrev pub addr_text : Addr → List ℕ
addr_text a =
    decimal (a.number / 16777216) ++ 46 ∷ [] ++ decimal (a.number / 65536 % 256) ++ 46 ∷ [] ++ decimal (a.number / 256 % 256) ++ 46 ∷ [] ++ decimal (a.number % 256)

abbrev pub method_text : Method → List ℕ
method_text Masq = codes "masq"
method_text Tunnel = codes "tunnel"
method_text Direct = codes "direct"

abbrev pub malformed_text : Malformed → List ℕ
malformed_text malformed.Short = codes "short"
malformed_text malformed.Version = codes "version"
malformed_text malformed.HeaderLength = codes "headerlength"
malformed_text malformed.TotalLength = codes "totallength"
malformed_text malformed.HeaderSum = codes "headersum"
malformed_text malformed.L4Short = codes "l4short"

abbrev pub drop_text : DropCause → List ℕ
drop_text (drops.Malformed cause) = codes "malformed " ++ malformed_text cause
drop_text drops.NoDest = codes "nodest"
drop_text drops.Gone = codes "gone"
drop_text drops.TooLong = codes "toolong"

abbrev pub refused_text : EditRefused → List ℕ
refused_text refused.Exists = codes "exists"
refused_text refused.NoService = codes "noservice"
refused_text refused.NoDest = codes "nodest"
refused_text refused.Thresholds = codes "thresholds"
refused_text refused.Running = codes "running"
refused_text refused.NotRunning = codes "notrunning"

abbrev pub learnt_text : Learnt → List ℕ
learnt_text learnt.Accepted = codes "accepted"
learnt_text learnt.Off = codes "off"
learnt_text learnt.OtherId = codes "otherid"
learnt_text learnt.V6 = codes "v6"
learnt_text learnt.BadProto = codes "badproto"
learnt_text learnt.BadState = codes "badstate"
learnt_text learnt.BadMethod = codes "badmethod"

abbrev pub bad_sync_text : BadSync → List ℕ
bad_sync_text bad.Short = codes "short"
bad_sync_text bad.Version = codes "version"
bad_sync_text bad.Size = codes "size"
bad_sync_text bad.RecordShort = codes "recordshort"
bad_sync_text bad.RecordVersion = codes "recordversion"
bad_sync_text bad.Options = codes "options"
bad_sync_text bad.Count = codes "count"

-- each message with a blank before it
abbrev pub messages_text : List (List ℕ) → List ℕ
messages_text [] = []
messages_text (message ∷ messages) = 32 ∷ encode_lower message ++ messages_text messages

abbrev pub reply_text : Reply → List ℕ
reply_text (reply.Forward how to bytes) = codes "fwd " ++ method_text how ++ 32 ∷ [] ++ addr_text to ++ 32 ∷ [] ++ encode_lower bytes
reply_text (reply.Outward bytes) = codes "out " ++ encode_lower bytes
reply_text reply.Pass = codes "pass"
reply_text (reply.Drop cause) = codes "drop " ++ drop_text cause
reply_text reply.Done = codes "ok"
reply_text (reply.Refused cause) = codes "refused " ++ refused_text cause
reply_text (reply.Learnt answer) = codes "learn " ++ learnt_text answer
reply_text (reply.BadMessage cause) = codes "badsync " ++ bad_sync_text cause
reply_text reply.Ticked = codes "ticked"
reply_text (reply.Swept count) = codes "swept " ++ decimal count
reply_text (reply.Reaped templates renewed servers) = codes "reaped " ++ decimal templates ++ 32 ∷ [] ++ decimal renewed ++ 32 ∷ [] ++ decimal servers
reply_text (reply.Sent messages) = codes "sent" ++ messages_text messages

-- whether there is no message
abbrev pub is_silent : List (List ℕ) → Bool
is_silent [] = true
is_silent (message ∷ messages) = false

-- whether the act has a line: what the clock does and what changes nothing has none
abbrev pub is_printed : Reply → Bool
is_printed (reply.Forward how to bytes) = true
is_printed (reply.Outward bytes) = true
is_printed reply.Pass = true
is_printed (reply.Drop cause) = true
is_printed reply.Done = true
is_printed (reply.Refused cause) = true
is_printed (reply.Learnt answer) = true
is_printed (reply.BadMessage cause) = true
is_printed reply.Ticked = false
is_printed (reply.Swept count) = not (count == 0)
is_printed (reply.Reaped templates renewed servers) = not ((templates == 0) && (renewed == 0) && (servers == 0))
is_printed (reply.Sent messages) = not (is_silent messages)

-- place, actor, number in the actor's list, reply
abbrev pub act_line : ℕ → Noted → List ℕ
act_line place act = decimal place ++ 32 ∷ [] ++ decimal act.actor ++ 46 ∷ [] ++ decimal act.number ++ 32 ∷ [] ++ reply_text act.reply ++ 10 ∷ []

-- the line of an act, where it has one
abbrev pub act_text : ℕ → Noted → List ℕ
act_text place act = if is_printed act.reply then act_line place act else []

-- the acts from this place on; a place counts also where nothing is printed
abbrev pub acts_text : ℕ → List Noted → List ℕ
acts_text place [] = []
acts_text place (act ∷ acts) = act_text place act ++ acts_text (place + 1) acts

abbrev pub shown_name : Shown → List ℕ
shown_name shown.List = codes "list"
shown_name shown.Conns = codes "conns"
shown_name shown.Save = codes "save"
shown_name (shown.IcmpIn bytes) = codes "icmp in " ++ encode_lower bytes
shown_name (shown.IcmpOut bytes) = codes "icmp out " ++ encode_lower bytes

-- a listing between its name and the line end
abbrev pub shown_text : ShownText → List ℕ
shown_text s = shown_name s.kind ++ 10 ∷ [] ++ s.text ++ codes "end" ++ 10 ∷ []

abbrev pub listings_text : List ShownText → List ℕ
listings_text [] = []
listings_text (s ∷ rest) = shown_text s ++ listings_text rest

abbrev pub head_text : RoundBook → List ℕ
head_text book =
    codes "round " ++ decimal book.number ++ codes " at " ++ decimal book.moment ++ codes " workers " ++ decimal book.workers ++ codes " buckets " ++ decimal book.buckets ++ 10 ∷ []

-- a round: its head, its acts in order of place, and its listings
abbrev pub round_text : RoundBook → List ℕ
round_text book = head_text book ++ acts_text 0 book.acts ++ listings_text book.shown

-- a report: its rounds in order
abbrev pub books_text : List RoundBook → List ℕ
books_text [] = []
books_text (book ∷ books) = round_text book ++ books_text books
