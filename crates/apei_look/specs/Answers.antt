-- What answers of the system say.
use Rattle.std.specs.Prelude.{◌≡◌, ◌≢◌, ℕ, Bool, true, false, Result, Ok, Err}
use Rattle.std.specs.Fs.{file_type, metadata_len, IsFile}
use Rattle.std.specs.IoError.{error_kind}
use Rattle.std.specs.declared.io.Error.{Error}
use Rattle.std.specs.declared.io.ErrorKind.TheVariants.{NotFound}
use Rattle.std.specs.declared.fs.attrs.Metadata.{Metadata}
use Rattle.std.specs.declared.fs.locks.TryLockError.{TryLockError}
use Rattle.std.specs.declared.fs.locks.TryLockError.TheVariants as locks
use Rattle.apei_look.specs.declared.host.Found.{Found}
use Rattle.apei_look.specs.declared.host.Found.TheVariants.{Nothing, File, Other}

-- what it says of a path: that nothing stands there is no error
abbrev pub IsFoundBy : Result Metadata Error → Result Found Error → Type 0
IsFoundBy (Ok metadata) (Ok File) = IsFile (file_type metadata)
IsFoundBy (Ok metadata) (Ok Other) = ¬ IsFile (file_type metadata)
IsFoundBy (Err error) (Ok Nothing) = error_kind error ≡ NotFound
IsFoundBy (Err error) (Err same) = (same ≡ error) × (error_kind error ≢ NotFound)
IsFoundBy answer found = ⊥

-- whether it locked a file
abbrev pub locked_by : Result (Unit {0}) TryLockError → Result Bool Error
locked_by (Ok done) = Ok true
locked_by (Err locks.WouldBlock) = Ok false
locked_by (Err (locks.Error error)) = Err error

-- how many bytes it says that a file has
abbrev pub size_by : Result Metadata Error → Result ℕ Error
size_by (Ok metadata) = Ok (metadata_len metadata)
size_by (Err error) = Err error
