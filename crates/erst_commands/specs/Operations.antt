-- A client's operations, each with its sequence (ACPI 6.4, section 18.5.2).
use Rattle.std.specs.Prelude.{ℕ, ◌<◌, ◌^◌, List}
use Rattle.erst_client.specs.declared.requests.Request.{Request}
use Rattle.erst_client.specs.Sequences.{write_requests, read_requests, clear_requests, dummy_requests}

pub data ClientOperation : Type 0 where
  WriteOperation : ClientOperation
  ReadOperation : (id : ℕ) → ClientOperation
  ClearOperation : (id : ℕ) → ClientOperation
  DummyWriteOperation : ClientOperation

abbrev pub requests_of : ClientOperation → List Request
requests_of WriteOperation = write_requests
requests_of (ReadOperation id) = read_requests id
requests_of (ClearOperation id) = clear_requests id
requests_of DummyWriteOperation = dummy_requests

-- an identifier that it is given has 64 bits
abbrev pub IsGivenRight : ClientOperation → Type 0
IsGivenRight WriteOperation = Unit {0}
IsGivenRight (ReadOperation id) = id < 2 ^ 64
IsGivenRight (ClearOperation id) = id < 2 ^ 64
IsGivenRight DummyWriteOperation = Unit {0}
