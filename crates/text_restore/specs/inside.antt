-- What the code holds while it reads an image. Callers need none of it.
pub mod Stages
pub mod Concluding
