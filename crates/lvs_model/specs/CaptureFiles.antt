-- Capture files in the classic pcap format, both ways (pcap-savefile(5); the links that are read and the order of the causes are this project's profile).
--
--   file header, 24 bytes     0 magic 4, 4 major version 2, 6 minor version 2, 8 zone 4, 12 accuracy 4, 16 greatest length 4, 20 link 4
--   record header, 16 bytes   0 seconds 4, 4 microseconds 4, 8 captured length 4, 12 original length 4; the captured bytes follow
use Rattle.std.specs.Prelude.{ℕ, zero, suc, ◌+◌, ◌*◌, ◌/◌, ◌%◌, ◌==◌, Bool, not, ◌&&◌, ◌||◌, List, [], ◌∷◌, ◌++◌, length, drop, slice_index, slice_range, flat_map, Option, Some, None, Result, Ok, Err, if◌then◌else◌, nat_lt, nat_le}
use Rattle.lvs_types.specs.declared.capture.Capture.{Capture}
use Rattle.lvs_types.specs.declared.capture.CaptureCause.{CaptureCause}
use Rattle.lvs_types.specs.declared.capture.CaptureCause.TheVariants as cause
use Rattle.lvs_types.specs.declared.capture.Frame.{Frame}
use Rattle.lvs_model.specs.declared.capture.BadCapture.{BadCapture}
use Rattle.lvs_model.specs.declared.capture.Endianness.{Endianness}
use Rattle.lvs_model.specs.declared.capture.Endianness.TheVariants.{Little, Big}
use Rattle.lvs_model.specs.Fields.{word_at, number_at}
use Rattle.lvs_model.specs.Refusals.{◌>>=◌}

-- PLACES

-- of the file header
abbrev pub magic_place : ℕ
magic_place = 0

abbrev pub major_place : ℕ
major_place = 4

abbrev pub minor_place : ℕ
minor_place = 6

abbrev pub link_place : ℕ
link_place = 20

abbrev pub file_header_size : ℕ
file_header_size = 24

-- of a record
abbrev pub seconds_place : ℕ
seconds_place = 0

abbrev pub micros_place : ℕ
micros_place = 4

abbrev pub captured_place : ℕ
captured_place = 8

abbrev pub whole_place : ℕ
whole_place = 12

abbrev pub record_header_size : ℕ
record_header_size = 16

-- WHAT STANDS THERE

-- what the file header begins with, in the file's own byte order
abbrev pub magic : ℕ
magic = 0xA1B2C3D4

-- the same with its bytes the other way round
abbrev pub swapped_magic : ℕ
swapped_magic = 0xD4C3B2A1

-- the links that are read: Ethernet, and IP without a header before it
abbrev pub ethernet : ℕ
ethernet = 1

abbrev pub raw_ip : ℕ
raw_ip = 101

-- the greatest length that a written file states
abbrev pub greatest_length : ℕ
greatest_length = 262144

-- NUMBERS IN A FILE'S BYTE ORDER

-- the number of two bytes, the low byte first
abbrev pub little_word_at : List ℕ → ℕ → ℕ
little_word_at bytes at = slice_index bytes at + 256 * slice_index bytes (at + 1)

-- the number of four bytes, the low byte first
abbrev pub little_number_at : List ℕ → ℕ → ℕ
little_number_at bytes at = little_word_at bytes at + 65536 * little_word_at bytes (at + 2)

abbrev pub word_in : Endianness → List ℕ → ℕ → ℕ
word_in Little bytes at = little_word_at bytes at
word_in Big bytes at = word_at bytes at

abbrev pub number_in : Endianness → List ℕ → ℕ → ℕ
number_in Little bytes at = little_number_at bytes at
number_in Big bytes at = number_at bytes at

-- a number below 2 ^ 16 as two bytes, the low byte first
abbrev pub little_word : ℕ → List ℕ
little_word n = n % 256 ∷ n / 256 ∷ []

-- a number below 2 ^ 32 as four bytes, the low byte first
abbrev pub little_number : ℕ → List ℕ
little_number n = little_word (n % 65536) ++ little_word (n / 65536)

-- READING

-- a refusal at the record of that number, 0 for the file header
abbrev pub refused_at : {A : Type 0} → ℕ → CaptureCause → Result A BadCapture
refused_at at why = Err (record { at = at; cause = why })

-- the byte order that the magic tells
abbrev pub order_of : List ℕ → Option Endianness
order_of bytes =
    if number_at bytes magic_place == magic then Some Big
    else if number_at bytes magic_place == swapped_magic then Some Little
    else None

-- version 2.4
abbrev pub is_version : Endianness → List ℕ → Bool
is_version order bytes = (word_in order bytes major_place == 2) && (word_in order bytes minor_place == 4)

abbrev pub link_of : Endianness → List ℕ → ℕ
link_of order bytes = number_in order bytes link_place

abbrev pub is_link : ℕ → Bool
is_link link = (link == ethernet) || (link == raw_ip)

-- the file header behind its magic; zone, accuracy and greatest length aren't looked at
abbrev pub checked_header : List ℕ → Option Endianness → Result Endianness BadCapture
checked_header bytes None = refused_at 0 cause.Magic
checked_header bytes (Some order) =
    if not (is_version order bytes) then refused_at 0 cause.Version
    else if not (is_link (link_of order bytes)) then refused_at 0 cause.Link
    else Ok order

-- the byte order of a file, or the first cause for which its header is none
abbrev pub header_of : List ℕ → Result Endianness BadCapture
header_of bytes = if nat_lt (length bytes) file_header_size then refused_at 0 cause.Short else checked_header bytes (order_of bytes)

-- how many bytes of the frame the first record holds
abbrev pub captured_length : Endianness → List ℕ → ℕ
captured_length order bytes = number_in order bytes captured_place

-- the frame of the first record
abbrev pub frame_of : Endianness → List ℕ → Frame
frame_of order bytes = record {
  seconds = number_in order bytes seconds_place;
  micros = number_in order bytes micros_place;
  whole = number_in order bytes whole_place;
  bytes = slice_range bytes record_header_size (record_header_size + captured_length order bytes);
}

-- the same, where its header and its captured bytes are there
abbrev pub frame_read : Endianness → ℕ → List ℕ → Result Frame BadCapture
frame_read order at bytes =
    if nat_lt (length bytes) record_header_size then refused_at at cause.RecordShort
    else if nat_lt (length bytes) (record_header_size + captured_length order bytes) then refused_at at cause.RecordShort
    else Ok (frame_of order bytes)

-- the frames behind the first so many bytes, one for each record; the first record there has the given number
abbrev pub frames_behind : Endianness → ℕ → ℕ → List ℕ → Result (List Frame) BadCapture
frames_behind order at zero [] = Ok []
frames_behind order at zero (byte ∷ bytes) = do
  frame ← frame_read order at (byte ∷ bytes)
  more ← frames_behind order (at + 1) (15 + length frame.bytes) bytes
  Ok (frame ∷ more)
frames_behind order at (suc skipped) [] = Ok []
frames_behind order at (suc skipped) (byte ∷ bytes) = frames_behind order at skipped bytes

-- the capture that a file holds, or the first cause for which it holds none
abbrev pub capture_of : List ℕ → Result Capture BadCapture
capture_of bytes = do
  order ← header_of bytes
  frames ← frames_behind order 1 file_header_size bytes
  Ok (record { link = link_of order bytes; frames = frames })

-- WRITING

-- little endian, version 2.4, zone 0, accuracy 0, raw IP
abbrev pub header_bytes : List ℕ
header_bytes = little_number magic ++ little_word 2 ++ little_word 4 ++ little_number 0 ++ little_number 0 ++ little_number greatest_length ++ little_number raw_ip

-- a record, of which all bytes that the frame has are the captured ones
abbrev pub record_bytes : Frame → List ℕ
record_bytes frame =
    little_number frame.seconds ++ little_number frame.micros ++ little_number (length frame.bytes) ++ little_number frame.whole ++ frame.bytes

-- the file that holds these frames
abbrev pub capture_bytes : List Frame → List ℕ
capture_bytes frames = header_bytes ++ flat_map record_bytes frames

-- THE PACKET OF A FRAME

-- an Ethernet header whose type is IPv4 (RFC 894)
abbrev pub is_ipv4 : List ℕ → Bool
is_ipv4 bytes = nat_le 14 (length bytes) && (word_at bytes 12 == 0x0800)

-- the IP bytes: of raw IP all, of Ethernet those behind its header
abbrev pub ip_of : ℕ → Frame → Option (List ℕ)
ip_of link frame =
    if link == raw_ip then Some frame.bytes
    else if (link == ethernet) && is_ipv4 frame.bytes then Some (drop 14 frame.bytes)
    else None
