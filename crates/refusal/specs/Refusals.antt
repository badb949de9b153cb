-- Every refusal by its number, its layer, its place and its text. All promises about refusals rest on these tables.
use Rattle.std.specs.Prelude.{ℕ, List, codes}
use Rattle.refusal.specs.declared.Layer.{Layer}
use Rattle.refusal.specs.declared.Layer.TheVariants.{Call, Section, Table}
use Rattle.refusal.specs.declared.Refusal.{Refusal}
use Rattle.refusal.specs.declared.Refusal.TheVariants.{SizeCode, FrameBuffers, WorkBuffers, SectionSize, TableId, SectionLength, MarkerBit, NotPlain, Checksum, Field, NotOneDatagram, BeyondLimit, Contradiction, Unsealable, Unwritable}

abbrev pub number_of : Refusal → ℕ
number_of SizeCode = 1
number_of FrameBuffers = 2
number_of WorkBuffers = 3
number_of SectionSize = 4
number_of TableId = 5
number_of SectionLength = 6
number_of (MarkerBit place) = 7
number_of NotPlain = 8
number_of (Checksum place) = 9
number_of (Field place) = 10
number_of (NotOneDatagram place) = 11
number_of (BeyondLimit place) = 12
number_of (Contradiction place) = 13
number_of Unsealable = 14
number_of Unwritable = 15

-- 4 to 11 are about the section, 12 and 13 about the table that it would enter, all others about the call
abbrev pub layer_of : Refusal → Layer
layer_of SizeCode = Call
layer_of FrameBuffers = Call
layer_of WorkBuffers = Call
layer_of SectionSize = Section
layer_of TableId = Section
layer_of SectionLength = Section
layer_of (MarkerBit place) = Section
layer_of NotPlain = Section
layer_of (Checksum place) = Section
layer_of (Field place) = Section
layer_of (NotOneDatagram place) = Section
layer_of (BeyondLimit place) = Table
layer_of (Contradiction place) = Table
layer_of Unsealable = Call
layer_of Unwritable = Call

-- a wrong section_length is always seen at byte 1, scrambling and LLC/SNAP always at byte 5
abbrev pub place_of : Refusal → ℕ
place_of SizeCode = 0
place_of FrameBuffers = 0
place_of WorkBuffers = 0
place_of SectionSize = 0
place_of TableId = 0
place_of SectionLength = 1
place_of (MarkerBit place) = place
place_of NotPlain = 5
place_of (Checksum place) = place
place_of (Field place) = place
place_of (NotOneDatagram place) = place
place_of (BeyondLimit place) = place
place_of (Contradiction place) = place
place_of Unsealable = 0
place_of Unwritable = 0

abbrev pub layer_word : Layer → List ℕ
layer_word Call = codes "call"
layer_word Section = codes "section"
layer_word Table = codes "table"

abbrev pub text_of : Refusal → List ℕ
text_of SizeCode = codes "the frame size code is not in use"
text_of FrameBuffers = codes "the cells or the marks have the wrong length"
text_of WorkBuffers = codes "the scratch row or the names have the wrong length"
text_of SectionSize = codes "the section has fewer than 16 or more than 4,096 bytes"
text_of TableId = codes "the table_id is not known"
text_of SectionLength = codes "section_length does not fit the section"
text_of (MarkerBit place) = codes "a bit that must be 1 is 0"
text_of NotPlain = codes "the section is scrambled or wrapped by LLC/SNAP"
text_of (Checksum place) = codes "the checksum is wrong"
text_of (Field place) = codes "a header field or the size of the payload does not fit"
text_of (NotOneDatagram place) = codes "the bytes are not one whole datagram"
text_of (BeyondLimit place) = codes "the datagram passes the limit of its table"
text_of (Contradiction place) = codes "the section contradicts what is known"
text_of Unsealable = codes "the frame is empty or too many columns are held back"
text_of Unwritable = codes "the section buffer or delta_t is wrong"
