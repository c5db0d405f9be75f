mod BareSteps
mod Naming
mod TableSteps
mod Telling
