-- What the code's tables say.
use Rattle.std.specs.Prelude.{ℕ, List, map}
use Rattle.field_lines.specs.Fields.{Shown, Field, field, decimal_number, hexadecimal, guid, text, one_of, flags, bits, stamp, seconds, register}
use Rattle.field_lines.specs.Fields.{digits_of_bytes, all_bytes, all_lines, register_fields}
use Rattle.field_lines.specs.Layouts.{Group, Measure, fixed, told, rest, Sign, number_sign, guid_sign, Inside, Structure, Heading, part_heading, inside_heading, end_heading, end_of_parts}
use Rattle.field_lines.specs.declared.field.Field.{Field as FieldOfCode}
use Rattle.field_lines.specs.declared.field.Name.{Name}
use Rattle.field_lines.specs.declared.field.Shape.{Shape}
use Rattle.field_lines.specs.declared.field.Shape.TheVariants.{Decimal, Hexadecimal, Guid, Text, OneOf, Flags, Bits, Stamp, Seconds, Register, Digits, Bytes, Lines}
use Rattle.field_lines.specs.declared.layout.Count.{Count}
use Rattle.field_lines.specs.declared.layout.Size.{Size}
use Rattle.field_lines.specs.declared.layout.Size.TheVariants.{Fixed, Told, Rest}
use Rattle.field_lines.specs.declared.layout.Key.{Key}
use Rattle.field_lines.specs.declared.layout.Key.TheVariants.{Number as NumberKey, Guid as GuidKey}
use Rattle.field_lines.specs.declared.layout.Inner.{Inner}
use Rattle.field_lines.specs.declared.layout.Content.{Content}
use Rattle.field_lines.specs.declared.layout.Content.TheVariants.{Fields, Registers}
use Rattle.field_lines.specs.declared.layout.Parts.{Parts}
use Rattle.field_lines.specs.declared.layout.Layout.{Layout}
use Rattle.field_lines.specs.declared.style.Mark.{Mark}
use Rattle.field_lines.specs.declared.style.Mark.TheVariants.{Part, Inner as InnerMark, End, EndParts}

abbrev pub name_of : Name → ℕ × List ℕ
name_of name = (name.number, name.name.now)

abbrev pub shown_of : Shape → Shown
shown_of Decimal = decimal_number
shown_of Hexadecimal = hexadecimal
shown_of Guid = guid
shown_of Text = text
shown_of (OneOf names) = one_of (map name_of names.now)
shown_of (Flags names) = flags (map name_of names.now)
shown_of (Bits low count names) = bits low count (map name_of names.now)
shown_of Stamp = stamp
shown_of Seconds = seconds
shown_of Register = register
shown_of Digits = digits_of_bytes
shown_of Bytes = all_bytes
shown_of Lines = all_lines

abbrev pub field_of : FieldOfCode → Field
field_of coded = field coded.at coded.width coded.bit coded.name.now (shown_of coded.shape)

abbrev pub measure_of : Size → Measure
measure_of (Fixed count) = fixed count
measure_of (Told at width more) = told at width more
measure_of Rest = rest

abbrev pub sign_of : Key → Sign
sign_of (NumberKey at width number) = number_sign at width number
sign_of (GuidKey at name) = guid_sign at name.now

abbrev pub content_fields : Content → List Field
content_fields (Fields fields) = map field_of fields.now
content_fields (Registers width names) = register_fields width 0 (map (λ name. name.now) names.now)

abbrev pub inside_of : Inner → Inside
inside_of inner = record { name = inner.name.now; bit = inner.bit; sign = sign_of inner.key; at = inner.at; fields = content_fields inner.content }

abbrev pub group_of : Parts → Group
group_of parts = record {
  name = parts.name.now;
  count_at = parts.count.at;
  count_width = parts.count.width;
  low = parts.count.low;
  bits = parts.count.bits;
  measure = measure_of parts.size;
  valid_at = parts.valid_at;
  fields = map field_of parts.fields.now;
  inside = map inside_of parts.inner.now;
}

abbrev pub structure_of : Layout → Structure
structure_of layout = record {
  valid_at = layout.valid_at;
  fields = map field_of layout.fields.now;
  groups_at = layout.parts_at;
  groups = map group_of layout.parts.now;
}

abbrev pub heading_of : Mark → Heading
heading_of (Part name index) = part_heading name.now index
heading_of (InnerMark name) = inside_heading name.now
heading_of End = end_heading
heading_of EndParts = end_of_parts
